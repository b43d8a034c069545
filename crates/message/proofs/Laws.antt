-- Laws of the messages and of the reply, one file a notion.
pub mod Reading
pub mod Route
pub mod Layout
pub mod Envelope
pub mod Content
pub mod Header
pub mod Total
pub mod Reply
pub mod Buffer
pub mod Line
