pub mod Poly
pub mod Pairs
pub mod Machine
pub mod Work
pub mod Answer
pub mod Meaning
pub mod Made
