-- Laws of the ready documents.
pub mod Outgoing
