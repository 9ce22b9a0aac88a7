pub mod Close
pub mod Round
pub mod Whole
