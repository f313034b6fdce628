pub mod Stops
pub mod Day
pub mod Claims
pub mod Worked
