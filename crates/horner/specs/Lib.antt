pub mod Text
pub mod Written
pub mod Back
pub mod Promise
