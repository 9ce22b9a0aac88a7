pub mod Tape
pub mod laws
