pub mod Backlogs
pub mod Hastes
pub mod Intakes
pub mod Looks
pub mod Names
pub mod Waits
pub mod Wires
