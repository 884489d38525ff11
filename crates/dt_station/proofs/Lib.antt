pub mod Answered
pub mod Flushes
pub mod Lawful
pub mod Passes
pub mod Playing
pub mod Settles
pub mod Turns
