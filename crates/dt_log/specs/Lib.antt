pub mod Words
pub mod FaultWords
pub mod LogLines
pub mod Logs
pub mod Wording
