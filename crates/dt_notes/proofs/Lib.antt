pub mod RunTables
pub mod SetupTables
pub mod Slots
