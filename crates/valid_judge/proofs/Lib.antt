pub mod Small
pub mod Codes
pub mod Results
pub mod Laws
