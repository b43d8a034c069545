pub mod Modulo
pub mod Digits
pub mod Weighted
pub mod Check
pub mod Slips
