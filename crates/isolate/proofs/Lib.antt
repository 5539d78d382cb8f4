pub mod Hold
pub mod Slides
pub mod Walks
pub mod Ways
pub mod Promises
pub mod Prices
pub mod Auto
