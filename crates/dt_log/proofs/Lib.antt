pub mod Hexes
pub mod Lengths
pub mod Parts
pub mod WordLaws
pub mod LogTexts
