pub mod SentSegments
pub mod SendBuffer
pub mod Senders
pub mod Items
