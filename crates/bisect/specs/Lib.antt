pub mod Bracket
pub mod Cut
pub mod Bisect
pub mod Price
