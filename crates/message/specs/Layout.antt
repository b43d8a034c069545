-- 01, 'Layouts': a body of a fixed length and one operation, with its fields from position 4 on.
use Rattle.std.specs.Prelude.{ℕ, Bool, not, ◌&&◌, List, ◌∷◌, eqb, length}
use Rattle.packed.specs.Part.{byte_at}
use Rattle.codes.specs.Body.{free, mark, operation_of}
use Rattle.codes.specs.Chain.{◌when◌, ◌orelse◌}
use Rattle.codes.specs.Field.{Field, table_good, table_numbers, table_written}
use Rattle.message.specs.Limits.{first_position}
use Rattle.message.specs.Reading.{Reading, reading}

-- its length, the operation at byte 3, and the fields
pub record Layout : Type 0 where
  pub bytes : ℕ
  pub operation : ℕ
  pub fields : List Field

-- length, mark and operation
unfoldable pub fixed_shape : (bytes operation : ℕ) → List ℕ → Bool
fixed_shape bytes operation body = eqb (length body) bytes && eqb (byte_at 2 body) mark && eqb (operation_of body) operation

-- 01, 'Order, first that applies': the codes that the bytes decide
unfoldable pub body_code : Layout → List ℕ → ℕ
body_code layout body =
    1 when not (fixed_shape layout.bytes layout.operation body)
    orelse 1 when not (table_good first_position 1 layout.fields body)
    orelse 3 when not (table_good first_position 3 layout.fields body)

-- the code, and where it accepts the numbers of the fields
abbrev pub read_body : Layout → List ℕ → Reading
read_body layout body = reading (body_code layout body) (table_numbers first_position layout.fields body)

-- a body of these numbers
abbrev pub written_body : Layout → (values : List ℕ) → List ℕ
written_body layout values = free ∷ mark ∷ layout.operation ∷ table_written layout.fields values
