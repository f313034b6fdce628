pub mod Codes
pub mod heap
pub mod stack
pub mod through
pub mod values
pub mod Image
