pub mod Laws
pub mod Serving
pub mod Stages
pub mod Keeping
pub mod Settled
pub mod Pieces
pub mod AfterRound
pub mod Rounds
