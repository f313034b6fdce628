pub mod Free
pub mod Uses
