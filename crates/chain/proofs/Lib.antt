pub mod CodeNext
pub mod CodeFollow
pub mod CodeSequence
pub mod Auto
pub mod CodeChain
pub mod MeaningChain
pub mod Refusals
