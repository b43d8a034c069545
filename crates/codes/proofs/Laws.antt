-- Laws of the paper's numbers and of the chain that chooses among them, one file a notion.
pub mod Numbered
pub mod Code
pub mod Refusal
pub mod Chain
pub mod Listed
pub mod Field
pub mod Table
