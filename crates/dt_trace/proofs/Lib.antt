pub mod Folding
pub mod LineLaws
pub mod OnlyLaws
pub mod TraceLaws
pub mod Wiring
