pub mod Laws
pub mod Environments
pub mod Bridge
