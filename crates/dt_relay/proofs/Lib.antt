pub mod Causes
pub mod Entering
pub mod Links
pub mod Lookups
pub mod Straight
pub mod Routes
