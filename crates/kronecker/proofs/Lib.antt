pub mod Points
pub mod Rows
pub mod Repeats
pub mod Trials
pub mod Found
pub mod Auto
