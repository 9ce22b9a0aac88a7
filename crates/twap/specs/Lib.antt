pub mod Span
pub mod laws
