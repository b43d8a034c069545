-- Places of a list.
use Rattle.std.specs.Prelude.{ℕ, ◌≤◌, List, length}

-- one place is not behind another, and that is not behind the end
pub record Within (from to : ℕ) (l : List ℕ) : Type 0 where
  pub order : from ≤ to
  pub end : to ≤ length l
