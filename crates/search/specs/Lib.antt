pub mod Clear
pub mod Strip
pub mod Keep
pub mod Try
pub mod Tally
pub mod Answer
