pub mod Decoded
pub mod line
pub mod store
pub mod state
