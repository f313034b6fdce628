pub mod Answers
