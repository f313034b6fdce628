pub mod Bounds
pub mod pending
pub mod value_pairs
pub mod stack_pairs
pub mod filling
pub mod names
