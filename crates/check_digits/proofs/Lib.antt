-- Laws of check digits, and the proofs of their functions.
pub mod Laws
pub mod Cases
