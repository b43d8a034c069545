-- A table's rule by one test over the whole table: each entry is the next day where that is worked, and else the entry of the next day; the last
-- is 0. What is not worked is told by a test of a day. The law turns it into the table of any list that has just these days.
use mathlib.Core.Path.{◌≡◌, refl, ap, sym, ◌∙◌}
use mathlib.Core.Bool.{Bool, true, false, ◌&&◌, cond}
use mathlib.Core.List.{List, [], ◌∷◌, map}
use Prim.Native.Nat.{ℕ, suc, ◌+◌, ◌≤◌}
use native.Mathlib.Omega.{arith}
use borrow.Author.Tests.{eqb-true}
use lib.Dec.{eqb}
use lib.ListN.{length, get_or}
use Rattle.packed.specs.Every.{member}
use Rattle.packed.proofs.Laws.Told.{both}
use Rattle.calendar.specs.Rule.{year_days, later, next_day}
use Rattle.calendar.proofs.Laws.Rule.{later_step, none_later, listed_next, unlisted_next, none_next}

-- the entry that stands before the others: that of the day before `next`
abbrev pub entry_before : (rests : ℕ → Bool) (next : ℕ) → List ℕ → ℕ
entry_before rests next [] = 0
entry_before rests next (y ∷ ys) = cond (rests next) y next

-- the entries of the days after a day
abbrev pub right : (rests : ℕ → Bool) (day : ℕ) → List ℕ → Bool
right rests day [] = true
right rests day (x ∷ xs) = eqb x (entry_before rests (suc (suc day)) xs) && right rests (suc day) xs

module _ (rests : ℕ → Bool) (list : List ℕ) (just : (n : ℕ) → 1 ≤ n → n ≤ year_days → member n list ≡ rests n) where
  before : (day : ℕ) (xs : List ℕ) → day + length xs ≡ year_days → xs ≡ map (next_day list) (later day) → entry_before rests (suc day) xs ≡ next_day list day
  before day [] h e = sym (none_next list day (omega arith))
  before day (y ∷ ys) h e = go (rests (suc day)) refl
    where
      told : member (suc day) list ≡ rests (suc day)
      told = just (suc day) (omega arith) (omega arith)

      go : (t : Bool) → rests (suc day) ≡ t → cond t y (suc day) ≡ next_day list day
      go true on = ap (λ (l : List ℕ). get_or l 0 0) (e ∙ ap (map (next_day list)) (later_step day (omega arith))) ∙ sym (listed_next list day (omega arith) (told ∙ on))
      go false off = sym (unlisted_next list day (omega arith) (told ∙ off))

  pub by_test : (day : ℕ) (xs : List ℕ) → day + length xs ≡ year_days → right rests day xs ≡ true → xs ≡ map (next_day list) (later day)
  by_test day [] h e = ap (map (next_day list)) (sym (none_later day (omega arith)))
  by_test day (x ∷ xs) h e =
      let t = both (eqb x (entry_before rests (suc (suc day)) xs)) (right rests (suc day) xs) e in
      let rest = by_test (suc day) xs (omega arith) t.1 in
      let entry = eqb-true x (entry_before rests (suc (suc day)) xs) t.0 ∙ before (suc day) xs (omega arith) rest in
      ap (λ (n : ℕ). n ∷ xs) entry
      ∙ ap {B = List ℕ} (λ r. next_day list (suc day) ∷ r) rest
      ∙ sym (ap (map (next_day list)) (later_step day (omega arith)))
