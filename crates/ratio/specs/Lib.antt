pub mod Refusal
pub mod Range
pub mod Gcd
pub mod Step
pub mod Promise
pub mod When
