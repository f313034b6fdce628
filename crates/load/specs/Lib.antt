pub mod Loaded
pub mod prepare
