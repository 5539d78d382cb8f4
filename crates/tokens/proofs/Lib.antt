pub mod Nan
pub mod Digits
pub mod Tokens
pub mod Words
pub mod Heights
