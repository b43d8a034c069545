-- `date_of` goes through the months. The invariant: counted from the present month on, the days that are left give the date.
use mathlib.Core.Path.{◌≡◌}
use Prim.Native.Nat.{◌<◌}
use lib.ListN.{drop}
use Rattle.document.specs.Rules.{month_days}
use Rattle.calendar.specs.Rule.{entry_of}
use Rattle.calendar.specs.Dates.{dates_from, date_of}
use Rattle.calendar.proofs.dates.date_of.Given as goal

abbrev pub invariant-loop-month : goal.invariant-loop-month
invariant-loop-month l = (entry_of (dates_from l.month (drop l.month month_days)) l.day ≡ date_of l.number) × (0 < l.day)
