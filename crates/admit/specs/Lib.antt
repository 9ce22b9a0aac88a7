pub mod Admitting
pub mod laws
