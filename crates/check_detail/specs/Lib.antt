-- What the check program writes.
pub mod Line
