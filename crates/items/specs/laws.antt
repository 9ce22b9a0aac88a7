pub mod Items
pub mod Walk
