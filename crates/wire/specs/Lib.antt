pub mod Big
pub mod laws
