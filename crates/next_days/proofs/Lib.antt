-- The text of a table, and the proofs of the program's functions.
pub mod Lines
