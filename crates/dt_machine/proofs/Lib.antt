pub mod Dropping
pub mod Packing
