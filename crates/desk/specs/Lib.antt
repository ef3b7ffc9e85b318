pub mod Turn
pub mod TwoTurns
