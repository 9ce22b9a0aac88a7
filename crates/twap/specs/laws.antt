pub mod Span
pub mod Sizes
pub mod Lines
pub mod Pass
