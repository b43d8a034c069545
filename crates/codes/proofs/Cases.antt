-- The form of a table of cases: what the definitions give, beside what the paper says of it. A table holds where all are the same, which a check computes.
use mathlib.Core.Path.{◌≡◌}
use mathlib.Core.List.{List, map}
use Prim.Native.Nat.{ℕ, ◌-◌}
use lib.ListN.{set}

pub record Case (A : Type 0) : Type 0 where
  pub given : A
  pub due : A

infix 70 ◌is◌
abbrev pub ◌is◌ : {A : Type 0} → A → A → Case A
given is due = record { given = given; due = due }

abbrev pub AllDue : {A : Type 0} → List (Case A) → Type 0
AllDue {A = A} cases = map (λ (c : Case A). c.given) cases ≡ map (λ (c : Case A). c.due) cases

-- bytes with another byte at a position
abbrev pub with_byte : (position byte : ℕ) → List ℕ → List ℕ
with_byte p b s = set s (p - 1) b
