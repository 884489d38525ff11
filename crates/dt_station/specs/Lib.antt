pub mod Acts
pub mod Events
pub mod Leaving
pub mod Stations
