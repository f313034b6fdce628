pub mod Leaves
pub mod Low
pub mod Codes
pub mod Forms
pub mod Exec
