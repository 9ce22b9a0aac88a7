pub mod Held
pub mod Bodies
pub mod Stands
pub mod Around
