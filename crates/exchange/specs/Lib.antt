-- What a round is, and an evening of rounds.
pub mod Round
pub mod Fixed
pub mod Cursors
pub mod Course
pub mod Evening
pub mod Together
