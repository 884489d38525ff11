pub mod Counts
pub mod Telling
pub mod Sources
pub mod Sinks
pub mod Wires
pub mod Clocks
pub mod Spans
