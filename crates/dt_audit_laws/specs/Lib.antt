pub mod Showing
pub mod Numbering
pub mod Telling
pub mod Following
pub mod Books
pub mod Logs
pub mod Bounds
pub mod Logged
