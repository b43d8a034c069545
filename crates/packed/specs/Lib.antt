-- The meaning of packed decimals (01, 'Layouts').
pub mod Part
pub mod Every
pub mod Digits
pub mod Number
pub mod Writing
pub mod Pieces
