-- `is_day` asks what the definition asks; a number that is too long has no day.
use mathlib.Core.Path.{ap, sym, ◌∙◌}
use Prim.Native.Nat.{◌%◌}
use native.Mathlib.Omega.{arith}
use borrow.Author.Tests.{eq-eqb, ne_eqb}
use Rattle.document.specs.Rules.{day_and_month}
use Rattle.calendar.specs.Dates.{year, is_day2028}
use Rattle.calendar.proofs.Laws.Dates.{no_day}
use Rattle.calendar.proofs.dates.is_day.Goals as goal

pub returns-then-date-eq-YEAR : goal.returns-then-date-eq-YEAR
unfolding is_day2028
returns-then-date-eq-YEAR c =
    rw (eq-eqb (c.args.date % 100) year c.if-date-eq-YEAR.true) (c.day_and_month.ensures ∙ ap day_and_month c.in-Ok.ensures.1)

pub returns-else-date-eq-YEAR : goal.returns-else-date-eq-YEAR
unfolding is_day2028
returns-else-date-eq-YEAR c = rw (ne_eqb (c.args.date % 100) year c.if-date-eq-YEAR.false)

pub returns-in-Err : goal.returns-in-Err
returns-in-Err c = sym (no_day c.args.date (omega (arith, c.in-Err.ensures)))
