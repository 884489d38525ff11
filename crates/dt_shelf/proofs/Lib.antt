pub mod Keeping
pub mod Picking
