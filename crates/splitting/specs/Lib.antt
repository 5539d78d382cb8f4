pub mod Pair
pub mod Peel
pub mod Split
