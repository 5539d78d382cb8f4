pub mod Points
pub mod Combinations
pub mod Interpolation
pub mod Split
