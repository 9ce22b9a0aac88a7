pub mod Names
pub mod Finding
