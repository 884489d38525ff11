pub mod Positionals
pub mod Naming
