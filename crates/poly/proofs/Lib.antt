pub mod Canonical
pub mod When
pub mod Doors
pub mod Powers
pub mod Parts
pub mod Unit
pub mod Gives
pub mod Auto
