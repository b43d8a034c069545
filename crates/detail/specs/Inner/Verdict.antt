-- The end of the chain of a detail's codes, for code that has tested all documents in one pass.
use Rattle.std.specs.Prelude.{ℕ, Bool, not, cond, eqb}
use Rattle.codes.specs.Chain.{◌when◌, ◌orelse◌}
use Rattle.amounts.specs.declared.Totals.{Totals}
use Rattle.amounts.specs.Totals.{zeros}

-- the totals where a code accepts, else none
abbrev pub if_accepted : (code : ℕ) → Totals → Totals
if_accepted code t = cond (eqb code 0) t zeros

-- by whether all fields, all amounts and all drawees are good, and every document is for something
abbrev pub judged : (fields amounts served something : Bool) → ℕ
judged fields amounts served something = 1 when not fields orelse 3 when not amounts orelse 6 when not served orelse 44 when not something
