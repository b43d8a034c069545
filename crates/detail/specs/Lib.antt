-- The meaning of a detail (01, 'Detail', 'Trays' and 'The check program').
pub mod Limits
pub mod Groups
pub mod Shape
pub mod Codes
pub mod Writing
pub mod RoundTrip
pub mod Checked
pub mod Inner
