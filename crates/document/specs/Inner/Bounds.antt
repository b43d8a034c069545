-- How large totals can be that are made before it is known whether the bytes are digits.
use Rattle.std.specs.Prelude.{ℕ, ◌*◌, ◌^◌, ◌≤◌}
use Rattle.amounts.specs.declared.Totals.{Totals}

-- totals that n documents of any bytes cannot pass: a nominal and a commission stay below twice what digits reach
pub record Within (n : ℕ) (t : Totals) : Type 0 where
  pub documents : t.documents.0 ≤ n
  pub nominal : t.nominal.0 ≤ n * (2 * 100 ^ 6)
  pub commission : t.commission.0 ≤ n * (2 * 100 ^ 4)
