pub mod Ready
pub mod Asking
pub mod Steps
pub mod Apart
pub mod State
