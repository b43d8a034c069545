-- The calendar's dates are those of 2028 that a start takes, so a session can be started from every compensation date.
use mathlib.Core.Path.{◌≡◌, refl, ap, sym, subst, ◌∙◌}
use mathlib.Core.Bool.{Bool, true, false, not, ◌&&◌, ◌||◌, and-false, or-true}
use Prim.Native.Nat.{ℕ, ◌/◌, ◌%◌}
use native.Mathlib.Omega.{arith}
use borrow.Author.Tests.{le-leb, eqb-true, eq-eqb}
use lib.Dec.{eqb, leb}
use Rattle.std.specs.Prelude.{Ok}
use Rattle.packed.proofs.Laws.Told.{both}
use Rattle.document.specs.Rules.{day_and_month}
use Rattle.session.specs.Parties.{largest_date, leap_day, real_date}
use Rattle.calendar.specs.Dates.{year, is_day2028}
use Rattle.calendar.specs.Compensation.{compensation, Says}
use Rattle.calendar.proofs.Laws.Dates.{day_short}
use Rattle.calendar.proofs.Laws.Compensation.{every_answer_true}

pub same_dates : (date : ℕ) → is_day2028 date ≡ real_date date && eqb (date % 100) year
unfolding is_day2028 real_date
same_dates date = go (eqb (date % 100) year) refl (day_and_month (date / 100)) refl
  where
    go : (y : Bool) → eqb (date % 100) year ≡ y → (d : Bool) → day_and_month (date / 100) ≡ d → y && d ≡ leb date largest_date && d && (not (eqb (date / 100) leap_day) || eqb (date % 4) 0) && y
    go false e d f = rw (and-false (leb date largest_date && d && (not (eqb (date / 100) leap_day) || eqb (date % 4) 0)))
    go true e false f = rw (and-false (leb date largest_date))
    go true e true f =
        let day = day_short date (ap (λ (y : Bool). y && day_and_month (date / 100)) e ∙ f) in
        let leap : date % 4 ≡ 0 = omega (arith, eqb-true (date % 100) year e) in
        rw (le-leb date largest_date (omega (arith, day)), eq-eqb (date % 4) 0 leap, or-true (not (eqb (date / 100) leap_day)))

pub starts : (date given : ℕ) → compensation date ≡ Ok given → real_date given ≡ true
starts date given e =
    let day = (subst (Says date) e (every_answer_true date)).1 in
    (both (real_date given) (eqb (given % 100) year) (sym (same_dates given) ∙ day)).0
