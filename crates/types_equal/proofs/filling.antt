pub mod Itself
pub mod Fill
