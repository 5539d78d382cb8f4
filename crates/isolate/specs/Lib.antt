pub mod Answer
pub mod Sorted
pub mod Apart
pub mod Isolate
pub mod Promise
pub mod Price
