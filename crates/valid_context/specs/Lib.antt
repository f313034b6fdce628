pub mod Context
pub mod Told
pub mod premises
