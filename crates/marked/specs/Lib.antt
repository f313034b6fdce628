pub mod Marked
pub mod Packages
pub mod Instance
