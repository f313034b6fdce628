pub mod Cells
pub mod Raising
pub mod Regs
pub mod Sp
pub mod Told
pub mod Results
