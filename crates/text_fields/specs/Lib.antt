pub mod Answers
pub mod Pieces
pub mod numbers
pub mod names
pub mod plain_operands
