-- The next working day, the year 2028, and the compensation date.
pub mod Rule
pub mod Generator
pub mod Dates
pub mod Year
pub mod Compensation
pub mod Shown
