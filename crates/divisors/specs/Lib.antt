pub mod Listing
pub mod Marks
pub mod Walk
pub mod Promise
