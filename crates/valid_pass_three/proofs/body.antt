pub mod Lines
pub mod Registers
pub mod Flat
pub mod Arrays
pub mod Environments
