pub mod Budgets
pub mod Barred
pub mod Calls
pub mod Steps
pub mod Numbers
pub mod Tests
