pub mod Inboxes
pub mod FlowInboxes
pub mod Mailboxes
