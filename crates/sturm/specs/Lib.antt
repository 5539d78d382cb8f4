pub mod Value
pub mod Sign
pub mod Changes
pub mod Along
pub mod Rows
pub mod Count
pub mod Promise
