pub mod Rows
pub mod Laws
pub mod Callers
pub mod Bounds
pub mod Sections
