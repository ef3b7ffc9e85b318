pub mod Map
pub mod Sent
pub mod Calls
