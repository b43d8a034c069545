-- The meaning of the three counters (01, 'Centres and directions').
pub mod Totals
pub mod Difference
pub mod Inner
