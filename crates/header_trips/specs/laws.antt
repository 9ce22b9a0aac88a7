pub mod Moved
pub mod OldReader
