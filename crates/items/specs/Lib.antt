pub mod Items
pub mod laws
