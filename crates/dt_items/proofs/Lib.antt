pub mod Pieces
pub mod Marks
pub mod Longest
pub mod Rings
pub mod Copies
pub mod Counts
pub mod Following
