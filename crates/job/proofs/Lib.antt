pub mod Laying
pub mod Running
