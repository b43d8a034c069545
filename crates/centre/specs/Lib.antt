-- What always holds of one end of a line, and what a call does to it.
pub mod Premise
pub mod Turn
pub mod Inner
