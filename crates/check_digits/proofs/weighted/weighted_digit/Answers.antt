-- `weighted_digit` takes the remainder of the sum from 11, to one figure.
use mathlib.Core.Path.{ap, ◌∙◌}
use Prim.Native.Nat.{ℕ, ◌-◌, ◌%◌}
use Rattle.check_digits.specs.Weighted.{weighted_modulus, remainder, one_figure, weighted_digit}
use Rattle.check_digits.proofs.weighted.weighted_digit.Goals as goal

pub returns : goal.returns
unfolding weighted_digit remainder
returns c = c.one_figure.ensures ∙ ap (λ (sum : ℕ). one_figure (weighted_modulus - sum % weighted_modulus)) c.weighted_sum.ensures
