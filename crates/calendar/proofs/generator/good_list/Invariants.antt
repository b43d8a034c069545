-- `good_list` asks of each day whether it is above the one before and within the year. The invariant: the rest decides.
use mathlib.Core.Path.{◌≡◌}
use lib.ListN.{drop}
use Rattle.calendar.specs.Generator.{good_list}
use Rattle.calendar.proofs.Laws.Ascending.{good_behind}
use Rattle.calendar.proofs.generator.good_list.Given as goal

abbrev pub invariant-loop-day : goal.invariant-loop-day
invariant-loop-day l = good_behind l.last (drop l.day-index l.unworked) ≡ good_list l.unworked
