pub mod Answers
pub mod finding
