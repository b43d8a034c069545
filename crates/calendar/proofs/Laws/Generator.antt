-- The three outcomes of the generator: its number, and what it leaves in the places.
use mathlib.Core.Path.{◌≡◌, refl, ap, sym, ◌∙◌}
use mathlib.Core.Bool.{true, false}
use mathlib.Core.List.{List, ◌++◌, append-nil}
use Prim.Native.Nat.{ℕ, ◌≤◌, ◌<◌}
use native.Mathlib.Omega.{arith}
use borrow.Author.Tests.{lt-ltb, le-ltb}
use lib.ListN.{length, drop, drop_of_length-le}
use Rattle.std.specs.Prelude.{Result, Ok, Err, is_ok}
use Rattle.codes.specs.Chain.{◌when◌, ◌orelse◌}
use Rattle.calendar.specs.Rule.{year_days, table_of}
use Rattle.calendar.specs.declared.generator.TableRefusal.{TableRefusal}
use Rattle.calendar.specs.Generator.{good_list, table_number, table_refusal, places_after}

-- an answer, and the places as they are afterwards
abbrev pub Answered : (unworked before after : List ℕ) → Result (Unit {0}) TableRefusal → Type 0
Answered unworked before after a = (table_number a ≡ table_refusal unworked (length before)) × (after ≡ places_after unworked before)

pub wrong_list : (unworked days : List ℕ) → good_list unworked ≡ false → Answered unworked days days (Err TableRefusal.WrongList)
unfolding table_refusal places_after ◌when◌ ◌orelse◌
wrong_list unworked days bad = rw bad (refl, refl)

pub short_table : (unworked days : List ℕ) → good_list unworked ≡ true → length days < year_days → Answered unworked days days (Err TableRefusal.ShortBuffer)
unfolding table_refusal places_after ◌when◌ ◌orelse◌
short_table unworked days good short = rw (good, lt-ltb (length days) year_days short) (refl, refl)

pub made : (unworked days : List ℕ) → good_list unworked ≡ true → year_days ≤ length days → Answered unworked days (table_of unworked ++ drop year_days days) (Ok tt)
unfolding table_refusal places_after ◌when◌ ◌orelse◌
made unworked days good room = rw (good, le-ltb (length days) year_days room) (refl, refl)

-- so of a good list, where there is room, the answer is that it was made
pub is_made : (unworked days : List ℕ) → good_list unworked ≡ true → year_days ≤ length days → (r : Result (Unit {0}) TableRefusal) → table_number r ≡ table_refusal unworked (length days) → is_ok r ≡ true
is_made unworked days good room (Ok done) e = refl
is_made unworked days good room (Err TableRefusal.WrongList) e = absurd (omega (arith, e, (made unworked days good room).0))
is_made unworked days good room (Err TableRefusal.ShortBuffer) e = absurd (omega (arith, e, (made unworked days good room).0))

-- where there is room for the table and no more, it fills the places
pub whole_table : (unworked days : List ℕ) → good_list unworked ≡ true → length days ≡ year_days → places_after unworked days ≡ table_of unworked
whole_table unworked days good full =
    sym (made unworked days good (omega arith)).1
    ∙ ap (λ (rest : List ℕ). table_of unworked ++ rest) (drop_of_length-le days {i = year_days} (omega arith))
    ∙ append-nil (table_of unworked)
