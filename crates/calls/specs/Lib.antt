-- How the answers of a call are said.
pub mod Said
pub mod Inner
