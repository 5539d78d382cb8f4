pub mod Hold
pub mod Cuts
pub mod Inner
pub mod Outer
pub mod Prices
pub mod Refusals
