pub mod Happenings
pub mod LineCounts
pub mod Writing
pub mod Steps
pub mod Keeping
