-- Laws of lot files, and the proofs of the functions.
pub mod Laws
pub mod Cases
