pub mod Marked
pub mod Subjects
