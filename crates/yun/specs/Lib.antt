pub mod Got
pub mod Round
pub mod Yun
pub mod Loop
pub mod Answer
pub mod Promise
