pub mod Dollars
pub mod laws
