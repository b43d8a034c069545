use mathlib.Core.Path.{sym, ◌∙◌}
use native.Mathlib.Numerals.{add-one}
use native.Mathlib.Omega.{arith}
use Rattle.calendar.proofs.Laws.Ascending.{behind_nothing, none_behind, not_above_at, past_year_at, good_day_at}
use Rattle.calendar.proofs.generator.good_list.Goals as goal
use Rattle.calendar.proofs.generator.good_list.Goals.{then-day-last-via-then-day-last, then-day-last-via-else-day-last+then-day-gt-YEAR_DAYS}

pub loop-day-init : goal.loop-day-init
loop-day-init c = behind_nothing c.args.unworked.now

pub returns-then-day-last : goal.returns-then-day-last
returns-then-day-last c =
    let t = c.loop-day in
    let u = c.args.unworked.now in
    elim c.then-day-last.branch [
      | then-day-last-via-then-day-last w ↦ sym (not_above_at t.last u t.day-index (omega arith) w.if-day-last.true) ∙ t.invariant
      | then-day-last-via-else-day-last+then-day-gt-YEAR_DAYS w ↦ sym (past_year_at t.last u t.day-index (omega arith) w.if-day-gt-YEAR_DAYS.true) ∙ t.invariant
    ]

pub loop-day-preserved : goal.loop-day-preserved
loop-day-preserved c =
    let t = c.loop-day in
    rw add-one (sym (good_day_at t.last c.args.unworked.now t.day-index (omega arith) (omega arith) (omega arith)) ∙ t.invariant)

pub returns : goal.returns
returns c = sym (none_behind c.loop-day.last c.args.unworked.now c.loop-day.day-index (omega arith)) ∙ c.loop-day.invariant
