pub mod Fields
pub mod Forms
pub mod Answers
