pub mod Instrs
