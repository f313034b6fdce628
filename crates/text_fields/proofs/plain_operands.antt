pub mod Digits
pub mod PlacedLaws
