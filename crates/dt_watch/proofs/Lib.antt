pub mod Drifting
pub mod Lowest
pub mod Highest
pub mod Standing
pub mod Aging
pub mod Entering
pub mod Leaving
pub mod Rates
