pub mod Numerals
pub mod laws
