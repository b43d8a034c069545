-- A number as decimal text.
pub mod Decimal
