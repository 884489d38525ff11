pub mod Exports
pub mod Fronts
pub mod Lending
pub mod Making
pub mod Parameters
pub mod Passing
pub mod Watchings
