-- `fill` goes back through the year and the list. The invariant: from the present day on the table stands, `next` is its entry, and of the list
-- the days that are left are not above the present day, the others are.
use mathlib.Core.Path.{◌≡◌}
use mathlib.Core.List.{◌++◌, map}
use lib.ListN.{length, take, drop}
use Rattle.calendar.specs.Rule.{year_days, later, next_day}
use Rattle.calendar.proofs.Laws.Walk.{Walked}
use Rattle.calendar.proofs.generator.fill.Given as goal

abbrev pub invariant-loop-place : goal.invariant-loop-place
invariant-loop-place l =
    (length l.days ≡ length l.initial.days)
    × (drop l.place l.days ≡ map (next_day l.unworked) (later l.place) ++ drop year_days l.initial.days)
    × (l.left ≡ take (length l.left) l.unworked)
    × Walked l.unworked l.place l.next (length l.left)
