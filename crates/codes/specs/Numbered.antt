-- Which of some things has a number: how a byte of a reply is read back as one of 01's codes.
use Rattle.std.specs.Prelude.{ℕ, cond, List, [], ◌∷◌, eqb}

-- `found` of the first thing whose number is n, or `none` where no thing has it
unfoldable pub numbered : {A B : Type 0} (number : A → ℕ) (found : A → B) (none : B) → List A → ℕ → B
numbered number found none [] n = none
numbered number found none (x ∷ xs) n = cond (eqb n (number x)) (found x) (numbered number found none xs n)
