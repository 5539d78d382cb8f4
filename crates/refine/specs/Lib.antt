pub mod Refine
pub mod Root
pub mod Price
