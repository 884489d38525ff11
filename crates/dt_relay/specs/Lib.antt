pub mod Carrying
pub mod Passages
pub mod Places
pub mod Queues
pub mod Ways
