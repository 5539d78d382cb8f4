pub mod Values
pub mod Laid
pub mod Tests
pub mod Signs
pub mod Counts
pub mod Few
pub mod Chains
pub mod Promises
