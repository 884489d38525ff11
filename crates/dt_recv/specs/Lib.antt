pub mod Keys
pub mod Receivers
pub mod Records
