pub mod Around
pub mod Short
