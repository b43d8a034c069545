-- Laws of the calendar, and the proofs of its functions.
pub mod Laws
pub mod Cases
