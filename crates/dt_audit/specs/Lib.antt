pub mod Facts
pub mod Flaws
pub mod Books
pub mod LogRows
pub mod FlowNotes
pub mod Noting
pub mod Audits
pub mod Telling
