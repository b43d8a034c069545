-- 02, card 1: which list the generator takes, what it answers, and what it leaves in the places that it is lent.
use Rattle.std.specs.Prelude.{ℕ, Bool, true, not, ◌&&◌, cond, List, [], ◌∷◌, ◌++◌, ltb, eqb, length, drop, Result, Ok, Err}
use Rattle.packed.specs.Every.{every}
use Rattle.codes.specs.Field.{between}
use Rattle.codes.specs.Chain.{◌when◌, ◌orelse◌}
use Rattle.calendar.specs.declared.generator.TableRefusal.{TableRefusal}
use Rattle.calendar.specs.Rule.{year_days, table_of}

-- each day of a list is below the one after it
unfoldable pub ascending : List ℕ → Bool
ascending [] = true
ascending (a ∷ []) = true
ascending (a ∷ b ∷ ds) = ltb a b && ascending (b ∷ ds)

-- 40 otherwise: strictly ascending, each day 1 to 366
unfoldable pub good_list : List ℕ → Bool
good_list ds = ascending ds && every (between 1 year_days) ds

-- the paper's number of each answer; 23 as for every lent buffer that is too short
abbrev pub table_number : Result (Unit {0}) TableRefusal → ℕ
table_number (Ok made) = 0
table_number (Err TableRefusal.WrongList) = 40
table_number (Err TableRefusal.ShortBuffer) = 23

-- the first that applies
unfoldable pub table_refusal : (unworked : List ℕ) (places : ℕ) → ℕ
table_refusal unworked places = 40 when not (good_list unworked) orelse 23 when ltb places year_days

-- the table in the first places and the others as they were; all as they were where the call is refused
unfoldable pub places_after : (unworked days : List ℕ) → List ℕ
places_after unworked days = cond (eqb (table_refusal unworked (length days)) 0) (table_of unworked ++ drop year_days days) days
