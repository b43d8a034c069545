-- One file a notion.
pub mod Earned
pub mod Receive
