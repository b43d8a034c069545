-- The meaning of every message but the detail, and of the reply (01, 'Layouts').
pub mod Limits
pub mod Reading
pub mod Layout
pub mod Route
pub mod Envelope
pub mod Content
pub mod Header
pub mod Total
pub mod Reply
pub mod Line
pub mod RoundTrip
pub mod Inner
