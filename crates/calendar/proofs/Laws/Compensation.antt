-- What is answered for a date is so: by the rule at its number, and by dates and numbers going over into each other.
use mathlib.Core.Path.{◌≡◌, refl, sym, subst}
use mathlib.Core.Bool.{Bool, true, false, cond}
use mathlib.Core.List.{List}
use Prim.Native.Nat.{ℕ, zero, suc, ◌≤◌}
use native.Mathlib.Omega.{arith}
use Rattle.std.specs.Prelude.{Err}
use Rattle.calendar.specs.Rule.{year_days, FirstLater, found, none}
use Rattle.calendar.specs.Dates.{is_day2028, day_number}
use Rattle.calendar.specs.Year.{unworked2028, next_in2028}
use Rattle.calendar.specs.declared.compensation.NoDate.{NoDate}
use Rattle.calendar.specs.Compensation.{on_day, compensation, Says, EveryAnswerTrue}
use Rattle.calendar.proofs.Laws.Rule.{as_the_rule}
use Rattle.calendar.proofs.Laws.Dates.{number_within, numbered_dates}

in_year_lem : (unworked : List ℕ) (day n : ℕ) → FirstLater unworked day (suc n) → suc n ≤ year_days
in_year_lem unworked day n (found w least) = w.in_year
in_year_lem unworked day n (none z nobody) = omega arith

on_day_lem : (date : ℕ) → is_day2028 date ≡ true → (next : ℕ) → FirstLater unworked2028 (day_number date) next → Says date (on_day next)
unfolding on_day
on_day_lem date e zero first = (e, first)
on_day_lem date e (suc n) first =
    let d = numbered_dates.forth (suc n) (omega arith) (in_year_lem unworked2028 (day_number date) n first) in
    (e, d.0, subst (FirstLater unworked2028 (day_number date)) (sym d.1) first)

pub every_answer_true : EveryAnswerTrue
unfolding compensation next_in2028
every_answer_true date = go (is_day2028 date) refl
  where
    go : (t : Bool) → is_day2028 date ≡ t → Says date (cond t (on_day (next_in2028 (day_number date))) (Err NoDate.NoDay))
    go true e = let within = number_within date e in on_day_lem date e (next_in2028 (day_number date)) (as_the_rule.entries unworked2028 (day_number date) within.0 within.1)
    go false e = e
