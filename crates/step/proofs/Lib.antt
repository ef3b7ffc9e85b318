pub mod Chunks
pub mod Requests
pub mod Settled
