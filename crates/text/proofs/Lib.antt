pub mod Pages
pub mod Decimal
pub mod Hex
pub mod Numbers
pub mod Lengths
