pub mod Nodes
pub mod Calls
