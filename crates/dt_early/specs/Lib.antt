pub mod Early
pub mod Delays
