pub mod Names
pub mod laws
