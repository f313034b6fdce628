pub mod Registers
pub mod Items
