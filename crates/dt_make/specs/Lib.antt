pub mod Draws
pub mod Lines
pub mod Kinds
pub mod Rounds
pub mod Schedules
