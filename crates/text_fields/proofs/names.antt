pub mod Names
pub mod Stores
pub mod CodeRows
