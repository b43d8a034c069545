-- What functions below the calls are held to: no sentence of 01, and used by no definition outside such folders.
pub mod Digits
pub mod Values
pub mod Bounds
pub mod Found
