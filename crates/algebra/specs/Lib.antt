pub mod Rational
pub mod Polynomial
pub mod Textbook
