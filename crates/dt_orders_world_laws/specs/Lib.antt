pub mod Wires
pub mod Clients
pub mod Both
pub mod Ordered
pub mod Worked
