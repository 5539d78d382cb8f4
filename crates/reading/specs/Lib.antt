pub mod Numbers
pub mod Coefficients
pub mod Held
pub mod Promise
