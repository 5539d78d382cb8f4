pub mod Job
pub mod Laid
pub mod Run
