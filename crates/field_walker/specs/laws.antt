pub mod Said
pub mod Walking
