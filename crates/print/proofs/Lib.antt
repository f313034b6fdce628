pub mod Decimal
pub mod Casts
pub mod Signed
