pub mod Blocks
pub mod body
