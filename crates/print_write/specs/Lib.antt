pub mod Put
pub mod Answers
