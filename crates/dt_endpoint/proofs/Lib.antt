mod Collects
mod Flushed
mod UpToDate
mod Going
mod Mute
mod Keeping
pub mod Following
pub mod Waited
mod Answering
mod Fronts
mod Followed
