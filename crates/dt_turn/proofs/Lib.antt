mod Overheard
mod Shelved
mod Coming
mod Turning
pub mod Readying
