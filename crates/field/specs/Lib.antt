pub mod Judging
pub mod Layout
pub mod Said
pub mod Reading
pub mod Writing
pub mod Repriced
pub mod laws
