pub mod Again
pub mod Local
pub mod Reading
