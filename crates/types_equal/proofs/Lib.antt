pub mod Laws
pub mod Items
pub mod Values
pub mod Deeper
pub mod Stacks
pub mod Plain
