pub mod Struck
pub mod Calls
pub mod Program
