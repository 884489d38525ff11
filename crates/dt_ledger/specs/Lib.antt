pub mod Moments
pub mod Rows
pub mod Gives
pub mod Reads
pub mod Flows
pub mod Lending
pub mod Additions
