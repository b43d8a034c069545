-- The lot file: the layout, what the calls answer, when a slice is good, the lots that it holds, and the slice after adding and after taking out.
pub mod Layout
pub mod Answers
pub mod Good
pub mod Reading
pub mod Adding
pub mod TakingOut
pub mod Claims
pub mod Inner
