pub mod Chains
pub mod Chosen
pub mod Pieces
pub mod Records
