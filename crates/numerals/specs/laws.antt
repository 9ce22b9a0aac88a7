pub mod Walk
pub mod Lacks
pub mod Numerals
