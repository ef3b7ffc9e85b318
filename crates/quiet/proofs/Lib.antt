pub mod Alike
pub mod Unseen
pub mod Numbers
pub mod Step
pub mod Quiet
