pub mod Rule
pub mod Ascending
pub mod Walk
pub mod Generator
pub mod Table
pub mod Year
pub mod Dates
pub mod Compensation
