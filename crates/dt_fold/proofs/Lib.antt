pub mod Stopping
pub mod Lines
pub mod Waiting
