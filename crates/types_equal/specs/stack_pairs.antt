pub mod Items
pub mod Fit
