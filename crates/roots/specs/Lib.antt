pub mod Answer
pub mod Quote
pub mod Promise
pub mod Content
pub mod ContentPromise
