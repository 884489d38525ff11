pub mod Joined
pub mod LeftOut
