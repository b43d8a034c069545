-- The list of 2028 has just the days that are not worked, and is good.
use mathlib.Core.Path.{◌≡◌, refl}
use mathlib.Core.Bool.{true}
use mathlib.Core.List.{List}
use Prim.Native.Nat.{ℕ, ◌≤◌}
use native.Mathlib.Omega.{arith}
use lib.ListN.{length}
use Rattle.packed.specs.Every.{every, member}
use Rattle.document.specs.Rules.{month_days}
use Rattle.calendar.specs.Rule.{year_days, from, later, those, table_of}
use Rattle.calendar.specs.Generator.{ascending, good_list}
use Rattle.calendar.specs.Dates.{day_number}
use Rattle.calendar.specs.Year.{holidays, is_unworked, unworked2028}
use Rattle.calendar.proofs.Laws.Rule.{listed_exactly}
use Rattle.calendar.proofs.Laws.Table.{right, by_test}

pub just_unworked : (n : ℕ) → 1 ≤ n → n ≤ year_days → member n unworked2028 ≡ is_unworked n
unfolding unworked2028 later
just_unworked n h g = listed_exactly is_unworked n 1 year_days h (omega arith)

pub good_2028 : good_list unworked2028 ≡ true
unfolding unworked2028 good_list ascending every later from those member holidays day_number month_days
good_2028 = refl

-- a table that passes the test is that of the list
pub table_2028 : (table : List ℕ) → length table ≡ year_days → right is_unworked 0 table ≡ true → table ≡ table_of unworked2028
unfolding table_of
table_2028 table full tested = by_test is_unworked unworked2028 just_unworked 0 table (omega arith) tested
