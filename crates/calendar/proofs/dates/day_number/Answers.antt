-- `day_number` adds the months before a date's own and its day, which together are no more than the year.
use mathlib.Core.Path.{ap}
use Prim.Native.Nat.{ℕ, ◌+◌}
use native.Mathlib.Omega.{arith}
use lib.ListN.{take}
use Rattle.std.proofs.lemmas.Iterator.{YieldsList-from_slice}
use Rattle.std.proofs.lemmas.Iterator.Consumers.{sum_from_yields_List, fits_from_yields_list}
use Rattle.document.specs.Rules.{month_days}
use Rattle.calendar.specs.Dates.{day_in, month_in, day_number}
use Rattle.calendar.proofs.Laws.Dates.{within_year, month_within, number_within, day_short}
use Rattle.calendar.proofs.dates.day_number.Goals as goal

pub overflow_cast-day : goal.overflow_cast-day
overflow_cast-day c = omega (arith, day_short c.args.date c.requires)

pub shared_ref_as_front-iter : goal.shared_ref_as_front-iter
unfolding month_days
shared_ref_as_front-iter c = omega (arith, month_within c.args.date c.requires)

pub sum-requires-clause-fits : goal.sum-requires-clause-fits
unfolding month_days
sum-requires-clause-fits c =
    let month = month_in c.args.date in
    fits_from_yields_list c.iter.result _ (YieldsList-from_slice (take month month_days) cc) (omega (arith, within_year month))

pub overflow_add-result : goal.overflow_add-result
unfolding day_number month_days
overflow_add-result c =
    let months = sum_from_yields_List c.iter.result c.sum.result c.sum.ensures.ran (YieldsList-from_slice (take (month_in c.args.date) month_days) cc) in
    omega (arith, months, number_within c.args.date c.requires)

pub returns : goal.returns
unfolding day_number month_days
returns c =
    let months = sum_from_yields_List c.iter.result c.sum.result c.sum.ensures.ran (YieldsList-from_slice (take (month_in c.args.date) month_days) cc) in
    ap (λ (m : ℕ). m + day_in c.args.date) months
