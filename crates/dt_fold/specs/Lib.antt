pub mod Folds
pub mod Logging
