pub mod Ops
pub mod Lines
pub mod Request
pub mod Promise
