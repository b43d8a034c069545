-- One half of `table_good`, for code that has tested the digits before.
use Rattle.std.specs.Prelude.{ℕ, Bool, List}
use Rattle.packed.specs.Every.{every}
use Rattle.codes.specs.Field.{Field, field_value, earning}

-- every row of a code holds a value that its rule takes, whatever its digits
abbrev pub table_values : (first code : ℕ) → List Field → List ℕ → Bool
table_values first code fields s = every (field_value first s) (earning code fields)
