pub mod Marks
pub mod Kept
pub mod Figures
pub mod Turn
