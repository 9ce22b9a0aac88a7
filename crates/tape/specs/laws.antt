pub mod Measuring
pub mod Track
pub mod Taken
