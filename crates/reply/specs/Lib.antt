pub mod Reply
pub mod Results
pub mod Promise
