use mathlib.Core.Path.{refl, sym, ◌∙◌}
use native.Mathlib.Numerals.{add-one}
use native.Mathlib.Omega.{arith}
use Rattle.document.specs.Rules.{month_days}
use Rattle.calendar.specs.Dates.{date_of}
use Rattle.calendar.proofs.Laws.Dates.{in_month_at, after_month_at, past_months}
use Rattle.calendar.proofs.dates.date_of.Goals as goal

pub loop-month-init : goal.loop-month-init
unfolding date_of
loop-month-init c = (refl, c.requires)

pub returns-then-day-days : goal.returns-then-day-days
unfolding month_days
returns-then-day-days c =
    rw c.from.ensures (sym (in_month_at c.loop-month.month c.loop-month.day (omega arith) c.loop-month.invariant.1 c.if-day-days.true) ∙ c.loop-month.invariant.0)

pub loop-month-preserved : goal.loop-month-preserved
unfolding month_days
loop-month-preserved c = (
  rw add-one (sym (after_month_at c.loop-month.month c.loop-month.day (omega arith) c.if-day-days.false) ∙ c.loop-month.invariant.0),
  omega arith,
)

pub returns : goal.returns
unfolding month_days
returns c = sym (past_months c.loop-month.month c.loop-month.day (omega arith)) ∙ c.loop-month.invariant.0
