pub mod Told
pub mod Yes
