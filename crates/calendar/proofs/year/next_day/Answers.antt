-- `next_day` reads the table at a day of the year; of other numbers there is no entry.
use mathlib.Core.Path.{ap, sym, ◌∙◌}
use mathlib.Core.List.{List, ◌∷◌}
use Prim.Native.Nat.{ℕ, ◌-◌}
use native.Mathlib.Omega.{arith}
use lib.ListN.{get_or, get_or-eq_default}
use Rattle.calendar.specs.Rule.{table_of, entry_of}
use Rattle.calendar.specs.Year.{unworked2028, next_in2028}
use Rattle.calendar.proofs.Laws.Rule.{length_table, place_of}
use Rattle.calendar.proofs.year.next_day.Goals as goal
use Rattle.calendar.proofs.year.next_day.Goals.{then-day-eq0-via-then-day-eq0, then-day-eq0-via-else-day-eq0+then-day-gt-YEAR_DAYS}

pub returns-then-day-eq0 : goal.returns-then-day-eq0
unfolding next_in2028
returns-then-day-eq0 c =
    elim c.then-day-eq0.branch [
      | then-day-eq0-via-then-day-eq0 w ↦ ap (λ (day : ℕ). entry_of (table_of unworked2028) day) (sym w.if-day-eq0.true)
      | then-day-eq0-via-else-day-eq0+then-day-gt-YEAR_DAYS w ↦ sym (get_or-eq_default (0 ∷ table_of unworked2028) 0 {n = c.args.day} (omega (arith, length_table unworked2028)))
    ]

pub returns : goal.returns
unfolding next_in2028
returns c =
    let day = c.args.day in
    ap (λ (table : List ℕ). get_or table (c.from.result - 1) 0) c.table.ensures
    ∙ ap (λ (d : ℕ). get_or (table_of unworked2028) (d - 1) 0) c.from.ensures
    ∙ place_of (table_of unworked2028) day (omega arith)
