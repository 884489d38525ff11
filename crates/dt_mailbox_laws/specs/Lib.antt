pub mod Mails
pub mod Gaps
