pub mod Machine
pub mod Run
pub mod Steps
pub mod Tests
