pub mod Orders
pub mod Drafts
pub mod Codes
