-- The text of a table.
pub mod Text
