pub mod Meets
pub mod Entries
pub mod Lists
pub mod Sides
