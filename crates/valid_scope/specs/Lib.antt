pub mod Letters
pub mod Scoped
pub mod variables
pub mod entry
