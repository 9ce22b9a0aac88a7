pub mod Moving
pub mod laws
