pub mod Adding
pub mod Says
pub mod Sizes
pub mod Cases
