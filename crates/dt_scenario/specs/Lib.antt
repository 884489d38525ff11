pub mod Scenes
pub mod Parts
pub mod Writing
