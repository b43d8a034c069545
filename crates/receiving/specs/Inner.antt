-- What functions below the calls are held to: no sentence of 01, and used by no definition outside such folders.
pub mod Order
pub mod Earned
pub mod Handled
pub mod Lent
