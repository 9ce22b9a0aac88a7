pub mod Said
pub mod Walking
pub mod laws
