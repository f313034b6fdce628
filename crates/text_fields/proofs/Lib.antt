pub mod Stores
pub mod Operands
pub mod Placed
