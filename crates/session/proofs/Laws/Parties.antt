-- Laws of the parties: what a start that is not refused tells of them.
use mathlib.Core.Path.{◌≡◌}
use mathlib.Core.Bool.{true, not, ◌&&◌, ◌||◌}
use mathlib.Core.List.{List}
use Prim.Native.Nat.{ℕ, ◌/◌, ◌%◌, ◌≤◌}
use lib.Dec.{eqb, leb}
use lib.ListN.{length}
use borrow.Author.Tests.{leb-true, eqb-false, not-true}
use Rattle.packed.specs.Every.{every}
use Rattle.packed.proofs.Laws.Told.{both, three}
use Rattle.document.specs.Limits.{largest_entity, most_represented}
use Rattle.document.specs.Rules.{day_and_month}
use Rattle.document.specs.Entities.{is_entity, entities_good}
use Rattle.session.specs.Parties.{largest_date, leap_day, real_date, parties_good}

pub record Told (d o p : ℕ) (r : List ℕ) : Type 0 where
  pub date : d ≤ largest_date
  pub own : o ≤ largest_entity
  pub partner : p ≤ largest_entity
  pub represented : length r ≤ most_represented
  pub different : o ≡ p → ⊥

pub told : (date own partner : ℕ) (represented : List ℕ) → parties_good date own partner represented ≡ true → Told date own partner represented
unfolding parties_good real_date
told date own partner represented e =
    let pair = both (real_date date && entities_good own represented && is_entity partner) (not (eqb own partner)) e in
    let all = three (real_date date) (entities_good own represented) (is_entity partner) pair.0 in
    let day = three (leb date largest_date) (day_and_month (date / 100)) (not (eqb (date / 100) leap_day) || eqb (date % 4) 0) all.0 in
    let served = three (is_entity own) (leb (length represented) most_represented) (every is_entity represented) all.1 in
    record {
      date = leb-true date largest_date day.0;
      own = leb-true own largest_entity served.0;
      partner = leb-true partner largest_entity all.2;
      represented = leb-true (length represented) most_represented served.1;
      different = eqb-false own partner (not-true (eqb own partner) pair.1);
    }
