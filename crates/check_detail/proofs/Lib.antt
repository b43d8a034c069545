-- What the program writes for 01's example.
pub mod Cases
