-- What the sum and the difference of amounts ask, so that their results fit the numbers of the code.
use Rattle.std.specs.Prelude.{ℕ, ◌+◌, ◌^◌, ◌<◌}
use Rattle.amounts.specs.declared.Totals.{Totals}

-- the three sums fit their counters
pub record SumFits (a b : Totals) : Type 0 where
  pub documents : a.documents.0 + b.documents.0 < 2 ^ 64
  pub nominal : a.nominal.0 + b.nominal.0 < 2 ^ 64
  pub commission : a.commission.0 + b.commission.0 < 2 ^ 64

-- both amounts are small enough that a signed number of 64 bits holds their difference
pub record DifferenceFits (a b : ℕ) : Type 0 where
  pub left : a < 2 ^ 63
  pub right : b < 2 ^ 63
