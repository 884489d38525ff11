pub mod Unread
pub mod Unmarked
