-- The laws that crates above cite, and cases computed of the definitions.
pub mod Laws
pub mod Cases
