pub mod Store
pub mod Lines
