pub mod Day
pub mod Line
pub mod Wide
