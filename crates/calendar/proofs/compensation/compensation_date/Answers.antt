-- `compensation_date` goes from the date to its number, through the table, and back.
use mathlib.Core.Path.{◌≡◌, refl, ap, sym, ◌∙◌}
use mathlib.Core.Bool.{true}
use Prim.Native.Nat.{ℕ, zero, suc}
use native.Mathlib.Omega.{arith}
use Rattle.std.specs.Prelude.{Ok}
use Rattle.calendar.specs.Dates.{is_day2028, day_number, date_of}
use Rattle.calendar.specs.Year.{next_in2028}
use Rattle.calendar.specs.Compensation.{on_day, compensation}
use Rattle.calendar.proofs.compensation.compensation_date.Goals as goal

-- the number of the next working day decides, and 0 is no day
module _ (date day next : ℕ) (valid : true ≡ is_day2028 date) (numbered : day ≡ day_number date) (found : next ≡ next_in2028 day) where
  decided : on_day next ≡ compensation date
  unfolding compensation
  decided = rw (← valid, found, numbered)

some_day : (next : ℕ) → (next ≡ 0 → ⊥) → Ok (date_of next) ≡ on_day next
unfolding on_day
some_day zero h = absurd (h refl)
some_day (suc n) h = refl

pub returns-then-not-is_day : goal.returns-then-not-is_day
unfolding compensation
returns-then-not-is_day c = rw (sym c.if-not-is_day.ensures)

pub returns-in-0 : goal.returns-in-0
unfolding on_day
returns-in-0 c =
    ap on_day (sym c.in-0.is) ∙ decided c.args.date c.day_number.result c.next_day.result c.if-not-is_day.ensures c.day_number.ensures c.next_day.ensures

pub returns-in_default : goal.returns-in_default
returns-in_default c =
    ap Ok c.date_of.ensures
    ∙ some_day c.next_day.result (λ none. omega arith)
    ∙ decided c.args.date c.day_number.result c.next_day.result c.if-not-is_day.ensures c.day_number.ensures c.next_day.ensures
