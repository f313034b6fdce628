pub mod Compare
pub mod Walk
