pub mod Moves
pub mod Whole
