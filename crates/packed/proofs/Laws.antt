-- Laws of packed decimals, one file a notion.
pub mod Part
pub mod Pieces
pub mod FlatMap
pub mod Told
pub mod Every
pub mod Member
pub mod Digits
pub mod Number
pub mod Writing
