pub mod Next
pub mod Sequence
pub mod Answer
pub mod Promise
