pub mod Inputs
pub mod Lines
pub mod Traces
pub mod Standing
pub mod Written
pub mod Spelling
