pub mod Dialogue
pub mod Pieces
pub mod Rounds
