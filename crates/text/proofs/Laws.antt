-- One file a notion.
pub mod Run
pub mod Word
pub mod Number
pub mod Got
pub mod Hex
pub mod Memory
pub mod Held
pub mod Line
