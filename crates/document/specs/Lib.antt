-- The meaning of one document (01, 'Detail').
pub mod Limits
pub mod Part
pub mod Operation
pub mod Rules
pub mod Fields
pub mod Entities
pub mod Drawee
pub mod Amounts
pub mod Inner
