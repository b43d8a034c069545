-- What slips through the checks: a changed digit passes exactly when the check digit is the same, and that is so exactly in the two cases of
-- the claim.
use mathlib.Core.Path.{◌≡◌, refl}
use mathlib.Core.Bool.{Bool, true, false}
use mathlib.Core.Logic.{◌↔◌, inl, inr}
use Prim.Native.Nat.{ℕ, ◌^◌, ◌%◌, ◌≤◌}
use native.Mathlib.Omega.{arith}
use borrow.Author.Tests.{ltb-true, ltb-false}
use lib.Dec.{ltb, lit≤}
use lib.ListN.{length}
use Rattle.check_digits.specs.Digits.{digit_at, with_digit}
use Rattle.check_digits.specs.Weighted.{weights, remainder, one_figure, weighted_digit}
use Rattle.check_digits.specs.Check.{Check, document_digit, by_weights, of_number}
use Rattle.check_digits.specs.Slips.{WrongDigit, PassesExactlyWhen, DifferBySeven, OneAndTen, CaughtUnlessOne, SlipsThrough}
use Rattle.check_digits.proofs.Laws.Modulo.{same_exactly, power}
use Rattle.check_digits.proofs.Laws.Digits.{digit_below, exchanged, one_digit_changed}
use Rattle.check_digits.proofs.Laws.Weighted.{remainder_below, remainder_changed, same_digit}
use Rattle.check_digits.proofs.Laws.Check.{passes_exactly, caught}

-- for every check: what passes is told by the two check digits
by_digits : (c : Check) (Slip : (n place wrong : ℕ) → Type 0) → ((n place wrong : ℕ) → WrongDigit c n place wrong → (c.digit_of n ≡ c.digit_of (with_digit place wrong n)) ↔ Slip n place wrong) → PassesExactlyWhen c Slip
by_digits c Slip exactly n place wrong w =
    let passes = passes_exactly c (with_digit place wrong n) (c.digit_of n) in
    let slips = exactly n place wrong w in
    (λ e. slips.0 (passes.0 e).0, λ s. passes.1 (slips.1 s, one_digit_changed.within c.digits place wrong n w.figure w.placed w.short))

-- modulo 7: 10 has the inverse 5, and so has each of its powers
document_digits : (n place wrong : ℕ) → WrongDigit of_number n place wrong → (document_digit n ≡ document_digit (with_digit place wrong n)) ↔ DifferBySeven n place wrong
document_digits n place wrong w = (λ e. apart (same.0 e), λ d. same.1 (alike d))
  where
    old : ℕ
    old = digit_at place n

    same : (n % 7 ≡ with_digit place wrong n % 7) ↔ (old % 7 ≡ wrong % 7)
    same = same_exactly 6 (10 ^ place) (5 ^ place) (power 6 10 5 refl place) n (with_digit place wrong n) old wrong (exchanged place wrong n)

    apart : old % 7 ≡ wrong % 7 → DifferBySeven n place wrong
    apart e = go (ltb old wrong) refl
      where
        go : (t : Bool) → ltb old wrong ≡ t → DifferBySeven n place wrong
        go true k = inr (omega (arith, ltb-true old wrong k, digit_below place n))
        go false k = inl (omega (arith, ltb-false old wrong k, digit_below place n, w.other))

    alike : DifferBySeven n place wrong → old % 7 ≡ wrong % 7
    alike (inl e) = omega arith
    alike (inr e) = omega arith

printed_one : (n place wrong : ℕ) → OneAndTen n place wrong → weighted_digit n ≡ 1
unfolding weighted_digit one_figure
printed_one n place wrong (inl (old, new)) = rw old
printed_one n place wrong (inr (old, new)) = rw old

-- modulo 11: the remainders differ, and so do the digits that they are taken to, but for 1 and 10; there is a weight for every digit that is
-- allowed
module _ (digits : ℕ) (few : digits ≤ length weights) where
  weighted_digits : (n place wrong : ℕ) → WrongDigit (by_weights digits) n place wrong → (weighted_digit n ≡ weighted_digit (with_digit place wrong n)) ↔ OneAndTen n place wrong
  unfolding weighted_digit
  weighted_digits n place wrong w =
      let changed = with_digit place wrong n in
      same_digit (remainder n) (remainder changed) (remainder_below n) (remainder_below changed) (remainder_changed n place wrong (omega arith) w.figure w.other)

  weighted_slips : PassesExactlyWhen (by_weights digits) OneAndTen
  weighted_slips = by_digits (by_weights digits) OneAndTen weighted_digits

  -- what does not pass is caught, and the check digit of either remainder is 1
  weighted_caught : CaughtUnlessOne (by_weights digits)
  weighted_caught n place wrong w printed =
      caught (by_weights digits) (with_digit place wrong n) (weighted_digit n)
      (λ e. printed (printed_one n place wrong ((weighted_slips n place wrong w).0 e)))

pub slips_through : SlipsThrough
unfolding weights
slips_through =
    record {
      number = by_digits of_number DifferBySeven document_digits;
      branch = weighted_slips 8 (lit≤ tt);
      account = weighted_slips 10 (lit≤ tt);
      branch_caught = weighted_caught 8 (lit≤ tt);
      account_caught = weighted_caught 10 (lit≤ tt);
    }
