pub mod Listing
pub mod laws
