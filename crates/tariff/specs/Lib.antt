-- Tariffs, the commission of a document by its tariff key, and the trays whose commissions are worked out.
pub mod Tariff
pub mod Rounding
pub mod Commission
pub mod Tray
pub mod Inner
