pub mod Promised
pub mod Shift
pub mod Lift
pub mod Named
pub mod Turning
