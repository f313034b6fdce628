pub mod Forms
pub mod Tabled
