pub mod Refusal
pub mod Value
pub mod Round
pub mod Search
pub mod Promise
