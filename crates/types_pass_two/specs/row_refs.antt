pub mod Rows
pub mod Least
