pub mod Copies
pub mod Effects
pub mod Events
pub mod Moments
pub mod Notes
pub mod Occasions
pub mod Runs
pub mod Setups
