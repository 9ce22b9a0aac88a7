pub mod Host
pub mod laws
