pub mod Standing
pub mod Records
pub mod Next
