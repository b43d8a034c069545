-- One half of `fields_good`, for code that has tested the digits before.
use Rattle.std.specs.Prelude.{ℕ, Bool, List}
use Rattle.codes.specs.Inner.Values.{table_values}
use Rattle.document.specs.Fields.{document_position, document_fields}

-- every field holds a value that its rule takes, whatever its digits
unfoldable pub values_good : (operation receiving : ℕ) → List ℕ → Bool
values_good operation receiving d = table_values document_position 1 (document_fields operation receiving) d
