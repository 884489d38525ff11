pub mod Nodes
pub mod Hearing
pub mod Shelving
pub mod Turns
pub mod Codes
