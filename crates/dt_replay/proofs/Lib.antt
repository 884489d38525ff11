pub mod Scenes
pub mod Steps
pub mod Closing
pub mod Ends
