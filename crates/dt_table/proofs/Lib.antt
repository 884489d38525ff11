pub mod Somes
pub mod Entries
pub mod Standing
pub mod Slots
pub mod Agendas
pub mod Tables
pub mod Closing
