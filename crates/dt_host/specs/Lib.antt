pub mod Answers
pub mod Dues
pub mod Hosts
pub mod Sides
pub mod Notes
pub mod Soonest
pub mod Others
