-- What an answer says: the paper's number, and the values that come with it.
use Rattle.std.specs.Prelude.{ℕ, cond, List, [], eqb}

pub record Reading : Type 0 where
  pub number : ℕ
  pub values : List ℕ

-- the values come where the number is 0
abbrev pub reading : (number : ℕ) (values : List ℕ) → Reading
reading number values = record { number = number; values = cond (eqb number 0) values [] }
