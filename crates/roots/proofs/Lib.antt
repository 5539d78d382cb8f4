pub mod Promises
pub mod Quotes
pub mod CodeContent
pub mod ContentWhole
pub mod Contents
pub mod Primitives
pub mod Listed
pub mod Auto
