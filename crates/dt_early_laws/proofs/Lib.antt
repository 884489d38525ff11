mod Links
mod Keeping
mod Shelving
mod Network
