-- `real_date`: a number of more than six digits is none; else the day of the month decides, and for the leap day the year.
use mathlib.Core.Path.{sym}
use mathlib.Core.Bool.{not, ◌&&◌, ◌||◌}
use Prim.Native.Nat.{◌/◌, ◌%◌}
use lib.Dec.{eqb}
use borrow.Author.Tests.{le-leb, lt-leb}
use Rattle.session.specs.Parties.{largest_date, leap_day, real_date}
use Rattle.session.proofs.parties.real_date.Goals as goal

pub returns-then-date-gt-LARGEST_DATE : goal.returns-then-date-gt-LARGEST_DATE
unfolding real_date
returns-then-date-gt-LARGEST_DATE c = rw (lt-leb c.args.date largest_date c.if-date-gt-LARGEST_DATE.true)

pub returns : goal.returns
unfolding real_date
returns c =
    let date = c.args.date in
    λ i. sym (le-leb date largest_date c.if-date-gt-LARGEST_DATE.false) i && c.day_and_month.ensures i && (not (eqb (date / 100) leap_day) || eqb (date % 4) 0)
