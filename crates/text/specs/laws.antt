pub mod Over
pub mod Putting
pub mod Held
pub mod Decimal
