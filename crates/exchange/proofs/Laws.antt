-- Laws of a round, of a direction's course, and of an evening, which is a list of calls of the claim about both ends.
pub mod Written
pub mod Rounds
pub mod Cursors
pub mod Course
pub mod Evening
pub mod Led
pub mod Together
