pub mod Answer
pub mod Quote
pub mod Promise
