pub mod Divide
pub mod Gcd
pub mod Resultant
pub mod Chain
pub mod Price
pub mod Answer
