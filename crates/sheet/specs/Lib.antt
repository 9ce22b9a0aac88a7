pub mod Fields
pub mod Judgement
pub mod laws
