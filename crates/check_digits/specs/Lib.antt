-- Check digits of documents keyed by hand: digits by their places, the weighted digit, the three checks, and what slips through them.
pub mod Digits
pub mod Weighted
pub mod Check
pub mod Slips
