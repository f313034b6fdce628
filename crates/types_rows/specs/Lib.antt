pub mod Read
pub mod Environments
pub mod Clear
pub mod size
pub mod item_counts
