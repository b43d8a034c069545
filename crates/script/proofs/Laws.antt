-- One file a notion.
pub mod Answer
pub mod Reading
pub mod Player
pub mod Play
