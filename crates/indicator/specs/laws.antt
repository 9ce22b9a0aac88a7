pub mod Indicator
pub mod Sums
pub mod Changed
