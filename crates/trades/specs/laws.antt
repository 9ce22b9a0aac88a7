pub mod Trades
pub mod Pass
pub mod Rowed
