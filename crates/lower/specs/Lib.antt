pub mod Exponent
pub mod Stack
pub mod Work
pub mod Run
pub mod Room
pub mod Promise
