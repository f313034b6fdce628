pub mod Typing
pub mod operands
pub mod components
pub mod plain_components
pub mod target
pub mod Image
