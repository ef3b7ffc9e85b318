mod Filled
mod Moving
pub mod Telling
