pub mod Order
pub mod Tournaments
pub mod Places
pub mod Latest
