pub mod Sections
pub mod Layout
pub mod Enough
