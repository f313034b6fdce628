pub mod Startable
