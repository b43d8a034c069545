-- `weighted_sum` goes through the weights from the units up. The invariant: what is left of the number stands from this place up, and the sum so
-- far with the places that are left is the whole sum; each place adds 90 at most.
use mathlib.Core.Path.{◌≡◌}
use Prim.Native.Nat.{◌+◌, ◌*◌, ◌^◌, ◌/◌, ◌≤◌}
use lib.ListN.{drop}
use Rattle.check_digits.specs.Weighted.{weights, weighted_from, weighted_sum}
use Rattle.check_digits.proofs.weighted.weighted_sum.Given as goal

abbrev pub invariant-loop-weight : goal.invariant-loop-weight
invariant-loop-weight l =
    let place = l.weight-index in
    (l.sum ≤ 90 * place) × (l.rest ≡ l.number / 10 ^ place) × (l.sum + weighted_from place (drop place weights) l.number ≡ weighted_sum l.number)
