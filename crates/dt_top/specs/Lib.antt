pub mod Inputs
pub mod Endings
pub mod Streams
pub mod Loans
pub mod Serving
pub mod Runs
pub mod Answering
