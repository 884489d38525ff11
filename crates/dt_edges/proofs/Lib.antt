pub mod Puts
pub mod Writes
pub mod Readings
pub mod Spanning
pub mod Answering
