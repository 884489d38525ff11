mod Noting
mod Doing
mod Logged
mod RunsOn
mod Keeping
mod Watching
mod Orderly
mod Served
mod Endings
mod Gathered
mod Unsent
mod Completed
mod Beginning
mod Listing
mod Waited
mod Tracing
mod Again
mod Cutting
mod Joining
mod Leaving
mod Fates
mod Planned
pub mod Repeated
pub mod Reached
pub mod Rerunning
