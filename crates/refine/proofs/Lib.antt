pub mod Halvings
pub mod Prices
