-- One file a notion.
pub mod Send
