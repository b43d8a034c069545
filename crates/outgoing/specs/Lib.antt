-- The meaning of the ready documents (01, 'Trays').
pub mod Outgoing
