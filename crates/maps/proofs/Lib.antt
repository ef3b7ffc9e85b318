pub mod Parts
pub mod Sent
pub mod Calls
pub mod Settled
