-- How the answer of receiving is said.
pub mod Said
pub mod Inner
