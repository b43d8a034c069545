-- The laws that crates above cite, the theorem about both ends, the starred cases, the order of refusals and codes, which codes
-- are given and known, what is kept of earlier sessions, and runs computed to their end.
pub mod Laws
pub mod Agreement
pub mod Recovery
pub mod Examples
pub mod Cases
pub mod Order
pub mod Known
pub mod Earlier
pub mod Runs
