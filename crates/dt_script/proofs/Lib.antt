mod Reading
pub mod Fitting
