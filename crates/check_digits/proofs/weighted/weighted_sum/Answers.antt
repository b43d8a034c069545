use mathlib.Core.Path.{◌≡◌, ap, ◌∙◌}
use Prim.Native.Nat.{ℕ, ◌/◌}
use native.Mathlib.Numerals.{add-one}
use native.Mathlib.Omega.{arith}
use lib.ListN.{drop}
use Rattle.check_digits.specs.Digits.{digit_at}
use Rattle.check_digits.specs.Weighted.{weights, weighted_from}
use Rattle.check_digits.proofs.Laws.Digits.{tenth_shifted}
use Rattle.check_digits.proofs.Laws.Weighted.{weighted_step, weighted_end, product_most}
use Rattle.check_digits.proofs.weighted.weighted_sum.Goals as goal

pub loop-weight-preserved : goal.loop-weight-preserved
unfolding weights digit_at
loop-weight-preserved c =
    let t = c.loop-weight in
    let place = t.weight-index in
    let n = c.args.number in (
      omega (arith, product_most t.rest place (omega arith)),
      ap (λ (q : ℕ). q / 10) t.invariant.1 ∙ tenth_shifted place n,
      rw (add-one, t.invariant.1) (omega (arith, weighted_step weights place n (omega arith), t.invariant.2)),
    )

pub returns : goal.returns
returns c =
    let t = c.loop-weight in
    let n = c.args.number in
    let done : t.weight-index ≡ 10 = omega arith in
    omega (arith, t.invariant.2, ap (λ (k : ℕ). weighted_from k (drop k weights) n) done ∙ weighted_end n)
