pub mod Works
pub mod Products
pub mod Occurs
pub mod Promises
pub mod Rebuilds
