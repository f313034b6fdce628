pub mod Few
pub mod Laws
