pub mod Trades
pub mod laws
