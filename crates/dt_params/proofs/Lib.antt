pub mod Lives
pub mod Ranges
