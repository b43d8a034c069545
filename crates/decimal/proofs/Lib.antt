-- The laws that crates above cite.
pub mod Laws
