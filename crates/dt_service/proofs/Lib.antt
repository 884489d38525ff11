pub mod Done
pub mod Events
pub mod Steps
pub mod Stops
