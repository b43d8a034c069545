-- What amounts of digits come to: each within its width, and the totals of documents within so many times as much.
use mathlib.Core.Path.{◌≡◌, refl, sym, ◌∙◌}
use mathlib.Core.Bool.{true}
use mathlib.Core.List.{List, [], ◌∷◌}
use Prim.Native.Nat.{ℕ, ◌+◌, ◌*◌, ◌^◌, ◌≤◌, ◌<◌}
use native.Mathlib.Nat.{lt_of_lt_of_le, pow-le-pow_right}
use native.Mathlib.Omega.{arith}
use lib.Dec.{lit<}
use lib.ListN.{length, length-take}
use Rattle.packed.specs.Part.{part}
use Rattle.packed.specs.Every.{every}
use Rattle.packed.specs.Digits.{are_digits}
use Rattle.packed.specs.Number.{number}
use Rattle.packed.proofs.Laws.Told.{both}
use Rattle.packed.proofs.Laws.Every.{every_cons}
use Rattle.packed.proofs.Laws.Number.{number_below}
use Rattle.document.specs.Limits.{largest_nominal, largest_commission}
use Rattle.document.specs.Fields.{nominal_field, commission_field, amounts_good}
use Rattle.document.specs.Amounts.{nominal, commission, totals_of}
use Rattle.document.proofs.Laws.Fields.{amounts_split}

below : (at n : ℕ) (d : List ℕ) → are_digits (part at n d) ≡ true → number (part at n d) < 100 ^ n
below at n d e = let short : length (part at n d) ≤ n = simp length-take (omega arith) in lt_of_lt_of_le (number_below (part at n d) e) (pow-le-pow_right (lit< tt) short)

-- the largest amounts are all that the digits of their fields can say
pub largest_amounts : (largest_nominal + 1 ≡ 100 ^ nominal_field.width) × (largest_commission + 1 ≡ 100 ^ commission_field.width)
largest_amounts = (refl, refl)

module _ (operation receiving : ℕ) where
  amounts_below : (d : List ℕ) → amounts_good operation receiving d ≡ true → (nominal d < 100 ^ 6) × (commission d < 100 ^ 4)
  unfolding nominal commission
  amounts_below d e =
      let digits = both (are_digits (part 25 6 d)) (are_digits (part 43 4 d)) (sym (amounts_split operation receiving d) ∙ e) in
      (below 25 6 d digits.0, below 43 4 d digits.1)

  -- every document counts once
  pub totals_below : (ds : List (List ℕ)) → every (amounts_good operation receiving) ds ≡ true → ((totals_of ds).documents.0 ≡ length ds) × ((totals_of ds).nominal.0 ≤ length ds * largest_nominal) × ((totals_of ds).commission.0 ≤ length ds * largest_commission)
  unfolding totals_of
  totals_below [] e = (omega arith, omega arith, omega arith)
  totals_below (d ∷ ds) e =
      let first = every_cons (amounts_good operation receiving) d ds e in
      let one = amounts_below d first.0 in
      let rest = totals_below ds first.1 in
      (omega (arith, rest.0), omega (arith, one.0, rest.1), omega (arith, one.1, rest.2))
