pub mod Tallies
pub mod Days
