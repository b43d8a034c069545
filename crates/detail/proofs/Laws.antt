-- Laws of a detail, one file a notion.
pub mod Groups
pub mod Shape
pub mod Codes
pub mod Checked
pub mod Writing
pub mod RoundTrip
pub mod Chunks
