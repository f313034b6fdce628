pub mod Rows
pub mod moved
