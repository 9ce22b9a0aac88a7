pub mod Indicator
pub mod Spans
pub mod laws
