pub mod arith
pub mod memory
