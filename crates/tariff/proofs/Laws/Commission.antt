-- Laws of one commission: the four outcomes of the call, what keeps the product small, and the bounds of the result.
use mathlib.Core.Path.{◌≡◌, refl}
use mathlib.Core.Bool.{true, false, ◌&&◌, cond, false≢true}
use mathlib.Core.List.{List}
use Prim.Native.Nat.{ℕ, zero, suc, ◌*◌, ◌≤◌}
use native.Mathlib.Nat.{mul-le-mul}
use native.Mathlib.Omega.{arith}
use lib.Dec.{leb, eqb, lit<}
use borrow.Author.Tests.{leb-true, ne_eqb}
use Rattle.std.specs.Prelude.{Option, IfSome, Result, Ok, Err}
use Rattle.packed.specs.Every.{every}
use Rattle.packed.proofs.Laws.Told.{both, three}
use Rattle.codes.specs.Field.{between}
use Rattle.codes.proofs.Laws.Chain.{all_held}
use Rattle.codes.specs.Chain.{◌when◌, ◌orelse◌}
use Rattle.document.specs.Limits.{largest_nominal, largest_commission}
use Rattle.tariff.specs.declared.row.Row.{Row}
use Rattle.tariff.specs.declared.search.Rule.{Rule}
use Rattle.tariff.specs.declared.commission.CommissionRefusal.{CommissionRefusal}
use Rattle.tariff.specs.Tariff.{largest_key, largest_rate, rows_of, row_good, good_tariff}
use Rattle.tariff.specs.Rounding.{rounded}
use Rattle.tariff.specs.Commission.{raised_to, cut_to, by_row, rule_of, is_known, due, within_limits, key_known, commission_refusal, commission_shown, commissioned, Bounded, EveryCommission}
use Rattle.tariff.specs.Inner.Bounds.{nominal_bound, product_bound, rate_of}
use Rattle.tariff.proofs.Laws.Rows.{each_good, rule_told}

-- the outcomes, by what is known of the tests before them
module _ (tariff : List ℕ) (key nominal typed : ℕ) where
  abbrev Answered : Result ℕ CommissionRefusal → Type 0
  Answered a = commission_shown a ≡ commissioned tariff key nominal typed

  pub wrong_tariff : good_tariff tariff ≡ false → Answered (Err CommissionRefusal.WrongTariff)
  unfolding commissioned commission_refusal ◌when◌ ◌orelse◌
  wrong_tariff bad = rw bad

  module _ (good : good_tariff tariff ≡ true) where
    pub over_limits : within_limits nominal typed ≡ false → Answered (Err CommissionRefusal.OverLimits)
    unfolding commissioned commission_refusal ◌when◌ ◌orelse◌
    over_limits over = rw (good, over)

    module _ (within : within_limits nominal typed ≡ true) where
      pub unknown_key : key_known (rows_of tariff) key ≡ false → Answered (Err CommissionRefusal.UnknownKey)
      unfolding commissioned commission_refusal ◌when◌ ◌orelse◌
      unknown_key none = rw (good, within, none)

      pub given : key_known (rows_of tariff) key ≡ true → Answered (Ok (due (rule_of (rows_of tariff) key) nominal typed))
      unfolding commissioned commission_refusal ◌when◌ ◌orelse◌
      given known = rw (good, within, known)

-- what a good row is known by
row_told : (r : Row) → row_good r ≡ true → (r.rate ≤ largest_rate) × (r.least ≤ r.greatest) × (r.greatest ≤ largest_commission)
row_told r e =
    let last = three (between 1 largest_key r.key && leb r.rate largest_rate) (leb r.least r.greatest) (leb r.greatest largest_commission) e in (
      leb-true r.rate largest_rate (both (between 1 largest_key r.key) (leb r.rate largest_rate) last.0).1,
      leb-true r.least r.greatest last.1,
      leb-true r.greatest largest_commission last.2,
    )

-- by good rows no product passes its bound
pub rate_most : (rows : List Row) (key : ℕ) → every row_good rows ≡ true → IfSome (rule_of rows key) (λ (rule : Rule). rate_of rule ≤ largest_rate)
rate_most rows key good =
    rule_told key (λ (o : Option Rule). IfSome o (λ (rule : Rule). rate_of rule ≤ largest_rate)) (λ z. omega arith) tt (λ r g. (row_told r g).0) rows good

pub product_most : (nominal rate : ℕ) → nominal ≤ nominal_bound → rate ≤ largest_rate → nominal * rate ≤ product_bound
product_most nominal rate h k = mul-le-mul h k

-- a result that is raised and cut lies between the two
cut_between : (least greatest n : ℕ) → least ≤ greatest → (least ≤ cut_to greatest (raised_to least n)) × (cut_to greatest (raised_to least n) ≤ greatest)
cut_between least greatest n h = (omega arith, omega arith)

pub row_between : (r : Row) (nominal : ℕ) → row_good r ≡ true → (r.least ≤ by_row r nominal) × (by_row r nominal ≤ r.greatest)
unfolding by_row
row_between r nominal good =
    cut_between r.least r.greatest (rounded (nominal * r.rate)) (row_told r good).1

-- the commission that a good tariff gives fits its digits
pub due_most : (tariff : List ℕ) (key nominal typed : ℕ) → good_tariff tariff ≡ true → typed ≤ largest_commission → due (rule_of (rows_of tariff) key) nominal typed ≤ largest_commission
unfolding due
due_most tariff key nominal typed good h =
    rule_told key (λ (o : Option Rule). due o nominal typed ≤ largest_commission) (λ z. h) (omega arith) (λ r g. omega (arith, (row_between r nominal g).1, (row_told r g).2))
    (rows_of tariff) (each_good tariff good)

-- a nominal and a typed commission that earn no 01
pub limits_told : (nominal typed : ℕ) → within_limits nominal typed ≡ true → (nominal ≤ largest_nominal) × (typed ≤ largest_commission)
limits_told nominal typed e =
    let each = both (leb nominal largest_nominal) (leb typed largest_commission) e in
    (leb-true nominal largest_nominal each.0, leb-true typed largest_commission each.1)

-- what an answer without a code is known by
code_told : (tariff : List ℕ) (key nominal typed : ℕ) → commission_refusal tariff key nominal typed ≡ 0 → (good_tariff tariff ≡ true) × (within_limits nominal typed ≡ true) × (key_known (rows_of tariff) key ≡ true)
unfolding commission_refusal
code_told tariff key nominal typed e =
    all_held 42 1 41 (good_tariff tariff) (within_limits nominal typed) (key_known (rows_of tariff) key) (lit< tt) (lit< tt) (lit< tt) e

-- the commission of a known key other than 0 keeps the bounds of its row
due_bounded : (tariff : List ℕ) (key nominal typed : ℕ) → (key ≡ 0 → ⊥) → good_tariff tariff ≡ true → key_known (rows_of tariff) key ≡ true → Bounded tariff key (due (rule_of (rows_of tariff) key) nominal typed)
unfolding due
due_bounded tariff key nominal typed other good known =
    rule_told key
    (λ (o : Option Rule). rule_of (rows_of tariff) key ≡ o → is_known o ≡ true → Bounded tariff key (due o nominal typed))
    (λ z. absurd (other z))
    (λ e k. absurd (false≢true k))
    (λ r g e k. record { row = r; keyed = e; at_least = (row_between r nominal g).0; at_most = (row_between r nominal g).1 })
    (rows_of tariff)
    (each_good tariff good)
    refl
    known

pub every_commission : EveryCommission
unfolding commissioned
every_commission =
    record {
      fits = λ tariff key nominal typed. fits tariff key nominal typed (commission_refusal tariff key nominal typed) refl;
      bounded = λ tariff key nominal typed other e.
          let t = code_told tariff key nominal typed e in
          rw e (due_bounded tariff key nominal typed other t.0 t.2);
    }
  where
    fits : (tariff : List ℕ) (key nominal typed k : ℕ) → commission_refusal tariff key nominal typed ≡ k → cond (eqb k 0) (due (rule_of (rows_of tariff) key) nominal typed) 0 ≤ largest_commission
    fits tariff key nominal typed zero e =
        let t = code_told tariff key nominal typed e in
        due_most tariff key nominal typed t.0 (limits_told nominal typed t.1).1
    fits tariff key nominal typed (suc k) e = rw (ne_eqb (suc k) 0 (omega arith)) (omega arith)
