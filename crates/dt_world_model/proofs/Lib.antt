pub mod Tables
pub mod Maps
pub mod Offers
pub mod Work
