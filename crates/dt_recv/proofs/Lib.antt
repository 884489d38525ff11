pub mod Codes
pub mod Accepting
pub mod Due
