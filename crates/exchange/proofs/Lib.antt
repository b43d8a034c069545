-- Laws that the proofs of this crate cite, and rows of what an evening shows.
pub mod Laws
pub mod Cases
