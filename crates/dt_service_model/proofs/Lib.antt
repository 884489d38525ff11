pub mod Walking
pub mod Halting
pub mod Growing
pub mod Accounts
pub mod Turning
pub mod Making
pub mod Going
pub mod Uncertain
