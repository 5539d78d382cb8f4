pub mod Door
pub mod Canonical
pub mod Parts
pub mod Operations
pub mod Promise
