pub mod WellFormed
pub mod Laws
