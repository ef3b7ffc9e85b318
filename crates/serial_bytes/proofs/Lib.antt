pub mod Range
pub mod Bytes
pub mod Pieces
