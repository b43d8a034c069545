-- What a line of a script does.
pub mod Reading
pub mod Answer
pub mod Player
pub mod Play
pub mod Inner
