pub mod Covered
pub mod Picked
