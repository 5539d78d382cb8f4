pub mod Parts
pub mod Sizes
pub mod Factors
pub mod Examples
