pub mod Beside
pub mod Counting
pub mod Entries
pub mod Giving
pub mod Passing
pub mod Reading
pub mod Settling
pub mod Summing
