-- What passes a check is known by its digit and its length; and every check digit is one figure.
use mathlib.Core.Path.{◌≡◌, refl}
use mathlib.Core.Bool.{Bool, true, false, not}
use mathlib.Core.Logic.{◌↔◌}
use Prim.Native.Nat.{ℕ, ◌-◌, ◌^◌, ◌<◌}
use native.Mathlib.Omega.{arith}
use borrow.Author.Tests.{eq-eqb, lt-ltb, eqb-true, ltb-true}
use lib.Dec.{eqb, ltb, lit<}
use Rattle.packed.proofs.Laws.Told.{both}
use Rattle.codes.specs.Chain.{◌when◌}
use Rattle.codes.proofs.Laws.Chain.{none_held}
use Rattle.check_digits.specs.Weighted.{weighted_modulus, remainder, one_figure, weighted_digit}
use Rattle.check_digits.specs.Check.{Check, document_digit, of_number, of_branch, of_account, passes, keyed_refusal, FailsAboveNine, EachFailsAboveNine}
use Rattle.check_digits.proofs.Laws.Weighted.{remainder_below, Taken, nothing, one, rest, taken}

pub passes_exactly : (c : Check) (n digit : ℕ) → (keyed_refusal c n digit ≡ 0) ↔ ((digit ≡ c.digit_of n) × (n < 10 ^ c.digits))
unfolding ◌when◌
passes_exactly c n digit = (
  λ e.
      let told = both (eqb digit (c.digit_of n)) (ltb n (10 ^ c.digits)) (none_held 43 (passes c n digit) (lit< tt) e) in
      (eqb-true digit (c.digit_of n) told.0, ltb-true n (10 ^ c.digits) told.1),
  λ h. rw (eq-eqb digit (c.digit_of n) h.0, lt-ltb n (10 ^ c.digits) h.1),
)

-- what does not pass has its 43
pub caught : (c : Check) (n digit : ℕ) → (keyed_refusal c n digit ≡ 0 → ⊥) → keyed_refusal c n digit ≡ 43
unfolding ◌when◌
caught c n digit fails = go (passes c n digit) fails
  where
    go : (t : Bool) → ((43 when not t) ≡ 0 → ⊥) → (43 when not t) ≡ 43
    go true f = absurd (f refl)
    go false f = refl

-- a digit that is one figure is matched by nothing above 9
above_nine : (c : Check) → ((n : ℕ) → c.digit_of n < 10) → FailsAboveNine c
above_nine c small n digit h = caught c n digit (λ e. omega (arith, ((passes_exactly c n digit).0 e).0, small n))

document_small : (n : ℕ) → document_digit n < 10
document_small n = omega arith

taken_small : (r d : ℕ) → Taken r d → d < 10
taken_small r d (nothing p q) = omega arith
taken_small r d (one p q) = omega arith
taken_small r d (rest p q) = omega arith

weighted_small : (n : ℕ) → weighted_digit n < 10
unfolding weighted_digit
weighted_small n = taken_small (remainder n) (one_figure (weighted_modulus - remainder n)) (taken (remainder n) (remainder_below n))

pub each_fails_above_nine : EachFailsAboveNine
each_fails_above_nine =
    record {
      number = above_nine of_number document_small;
      branch = above_nine of_branch weighted_small;
      account = above_nine of_account weighted_small;
    }
