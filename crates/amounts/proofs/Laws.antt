-- Laws of the three counters, one file a notion.
pub mod Totals
