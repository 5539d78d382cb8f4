pub mod Spelling
pub mod Words
pub mod Heights
