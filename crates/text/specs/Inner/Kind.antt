-- How many numbers a line of any kind may have.
use Rattle.std.specs.Prelude.{◌+◌, ◌≤◌, ◌<◌}
use Rattle.text.specs.declared.kind.Shape.{Shape}

-- no line has more than 19 numbers
pub record Sized (s : Shape) : Type 0 where
  pub all : s.asked + s.more ≤ 19
  pub place : s.asked < 19
