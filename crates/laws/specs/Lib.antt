pub mod Demand
pub mod laws
