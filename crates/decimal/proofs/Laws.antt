-- Laws of decimal text, and of text that grows.
pub mod Decimal
pub mod Text
