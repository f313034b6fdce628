pub mod Bodies
pub mod Few
pub mod Registers
pub mod Laws
