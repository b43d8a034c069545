-- What the calendar and the session have in common.
pub mod Dates
