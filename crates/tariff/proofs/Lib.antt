-- Laws of tariffs and trays, and the proofs of the functions.
pub mod Laws
pub mod Cases
