pub mod Step
pub mod Represents
