-- The laws that crates above cite, and the form of their tables of cases.
pub mod Laws
pub mod Cases
