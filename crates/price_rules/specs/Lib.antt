pub mod Closing
pub mod Says
pub mod laws
