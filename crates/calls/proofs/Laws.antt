-- One file a notion.
pub mod Said
pub mod Answer
pub mod Arrival
pub mod Detail
