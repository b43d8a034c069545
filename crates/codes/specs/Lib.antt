-- The paper's numbers, its way of choosing among them, what every body begins with, and tables of fields with the code of a fault in each.
pub mod Numbered
pub mod Code
pub mod Refusal
pub mod Answer
pub mod Chain
pub mod Body
pub mod Field
pub mod Inner
