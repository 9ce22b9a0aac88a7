pub mod Said
pub mod Field
pub mod Ends
pub mod Standing
