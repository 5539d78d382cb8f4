pub mod Ascii
pub mod Page
pub mod Spell
