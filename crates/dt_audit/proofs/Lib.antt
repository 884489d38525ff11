pub mod Regions
pub mod Entries
pub mod Seeking
pub mod Lines
pub mod Sound
pub mod Standing
pub mod Agreement
pub mod Readings
