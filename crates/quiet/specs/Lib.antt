pub mod Alike
pub mod Quiet
