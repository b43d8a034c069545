-- What the text of a script says.
pub mod Ascii
pub mod Word
pub mod Digit
pub mod Number
pub mod Got
pub mod Hex
pub mod Memory
pub mod Held
pub mod Kind
pub mod Line
pub mod Inner
