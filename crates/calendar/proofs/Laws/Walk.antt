-- The way back through the year and the list at the same time, as the generator goes it: the last days of the list that are passed are those
-- above the present day.
use mathlib.Core.Path.{◌≡◌, ap, sym, ◌∙◌, subst}
use mathlib.Core.Bool.{true, false}
use mathlib.Core.List.{List, ◌∷◌, ◌++◌, map}
use Prim.Native.Nat.{ℕ, suc, ◌-◌, ◌≤◌, ◌<◌}
use native.Mathlib.Omega.{arith}
use lib.ListN.{length, get_or, take, drop, set, length-set}
use lib.Seq.{drop-cons, get_or-set_same, drop-set-lt}
use Rattle.std.proofs.lemmas.List.{get_or-take, take-take, length-take-le}
use Rattle.packed.specs.Every.{member}
use Rattle.calendar.specs.Rule.{year_days, later, next_day, entry_of}
use Rattle.calendar.specs.Generator.{ascending, good_list}
use Rattle.calendar.proofs.Laws.Rule.{place_of, later_step, listed_next, unlisted_next, none_next}
use Rattle.calendar.proofs.Laws.Ascending.{above, listed, between_two, all_within}

-- what is known at a day: its entry, and that the list is parted there
pub record Walked (unworked : List ℕ) (day next left : ℕ) : Type 0 where
  pub entry : next ≡ next_day unworked day
  pub room : left ≤ length unworked
  pub under : entry_of unworked left ≤ day
  pub over : left < length unworked → day < get_or unworked left 0

-- at the last day nothing is passed
pub at_last : (unworked : List ℕ) → good_list unworked ≡ true → Walked unworked year_days 0 (length unworked)
at_last unworked good =
    record {
      entry = sym (none_next unworked year_days (omega arith));
      room = omega arith;
      under = all_within unworked good (length unworked);
      over = λ h. omega arith;
    }

-- the days that are left are the first of the list: the last of them, and those before it
module _ (unworked left : List ℕ) (first : left ≡ take (length left) unworked) (some : 1 ≤ length left) where
  pub last_left : get_or left (length left - 1) 0 ≡ entry_of unworked (length left)
  last_left =
      ap (λ (days : List ℕ). get_or days (length left - 1) 0) first
      ∙ get_or-take (length left) unworked (length left - 1) 0 (omega arith)
      ∙ place_of unworked (length left) some

  pub before_length : length (take (length left - 1) left) ≡ length left - 1
  before_length = length-take-le (length left - 1) left (omega arith)

  pub before_last : take (length left - 1) left ≡ take (length (take (length left - 1) left)) unworked
  before_last =
      ap (λ (days : List ℕ). take (length left - 1) days) first
      ∙ take-take (length left - 1) (length left) unworked (omega arith)
      ∙ ap (λ (n : ℕ). take n unworked) (sym before_length)

-- one day back, where the day is in the list, and where it is not
pub over_listed : (unworked : List ℕ) (e day next after l left : ℕ) → suc e ≡ day → suc l ≡ left → after ≡ next → day ≤ year_days → ascending (0 ∷ unworked) ≡ true
    → Walked unworked day next left → entry_of unworked left ≡ day → Walked unworked e after l
over_listed unworked e day next after l left de ll same h asc w found =
    let there : get_or unworked l 0 ≡ suc e = ap (λ (k : ℕ). entry_of unworked k) ll ∙ found ∙ sym de in
    let short : l < length unworked = omega (arith, w.room) in
    let in_list : member (suc e) unworked ≡ true = ap (λ (d : ℕ). member d unworked) (sym there) ∙ listed unworked l short in
    record {
      entry = same ∙ w.entry ∙ ap (next_day unworked) (sym de) ∙ sym (listed_next unworked e (omega arith) in_list);
      room = omega arith;
      under = omega (arith, above 0 unworked l asc short);
      over = λ h. omega arith;
    }

pub over_worked : (unworked : List ℕ) (e day next after l left : ℕ) → suc e ≡ day → l ≡ left → after ≡ day → day ≤ year_days → ascending (0 ∷ unworked) ≡ true
    → Walked unworked day next left → (entry_of unworked left ≡ day → ⊥) → Walked unworked e after l
over_worked unworked e day next after l left de same it h asc w missed =
    let gone : entry_of unworked left < day = omega (arith, w.under) in
    let not_in : member (suc e) unworked ≡ false = ap (λ (d : ℕ). member d unworked) de ∙ between_two 0 unworked left day asc w.room gone w.over in
    record {
      entry = it ∙ sym de ∙ sym (unlisted_next unworked e (omega arith) not_in);
      room = omega (arith, w.room);
      under = subst (λ (k : ℕ). entry_of unworked k ≤ e) (sym same) (omega arith);
      over = subst (λ (k : ℕ). k < length unworked → e < get_or unworked k 0) (sym same) (λ k. omega (arith, w.over k));
    }

-- the table grows at its front: the entry that is written stands before those of the later days
pub entry_written : (unworked days tail : List ℕ) (e day next : ℕ) → suc e ≡ day → day ≤ year_days → e < length days → next ≡ next_day unworked day
    → drop day days ≡ map (next_day unworked) (later day) ++ tail → drop e (set days e next) ≡ map (next_day unworked) (later e) ++ tail
entry_written unworked days tail e day next de h room entry rest =
    let after : List ℕ = set days e next in
    let behind : drop (suc e) after ≡ map (next_day unworked) (later (suc e)) ++ tail =
    drop-set-lt (suc e) days e next (omega arith)
    ∙ ap (λ (k : ℕ). drop k days) de
    ∙ rest
    ∙ ap (λ (k : ℕ). map (next_day unworked) (later k) ++ tail) (sym de) in
    drop-cons after e 0 (subst (λ (n : ℕ). e < n) (sym (length-set days e next)) room)
    ∙ ap (λ (x : ℕ). x ∷ drop (suc e) after) (get_or-set_same days e next 0 room ∙ entry ∙ ap (next_day unworked) (sym de))
    ∙ ap {B = List ℕ} (λ r. next_day unworked (suc e) ∷ r) behind
    ∙ sym (ap (λ (ds : List ℕ). map (next_day unworked) ds ++ tail) (later_step e (omega arith)))
