pub mod Factors
pub mod Rebuild
pub mod Promise
