pub mod Market
pub mod laws
