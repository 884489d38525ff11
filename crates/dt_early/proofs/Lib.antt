mod Picking
mod Replaying
mod Delaying
