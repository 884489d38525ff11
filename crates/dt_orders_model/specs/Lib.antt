pub mod Chains
pub mod Judging
pub mod Writing
pub mod Closing
pub mod Stores
pub mod Histories
pub mod Fates
pub mod Lanes
