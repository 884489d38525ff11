pub mod Order
pub mod Nodes
pub mod Tournaments
pub mod Deadlines
pub mod Latest
