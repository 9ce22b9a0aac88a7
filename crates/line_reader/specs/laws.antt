pub mod Cases
pub mod Trips
pub mod Pieces
