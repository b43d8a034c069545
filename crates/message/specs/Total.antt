-- 01, 'Lot total' and 'Session total': what ends a lot, and what ends a direction.
use Rattle.std.specs.Prelude.{Result, Ok, Err, ℕ, List, [], ◌∷◌, get_or}
use Rattle.amounts.specs.Totals.{totals}
use Rattle.codes.specs.Field.{Field, field, amount, any, table_numbers}
use Rattle.codes.specs.Code.{code_number}
use Rattle.codes.specs.declared.code.Code.{Code}
use Rattle.message.specs.declared.total.Total.{Total}
use Rattle.message.specs.Limits.{first_position, lot_total_bytes, session_total_bytes}
use Rattle.message.specs.Reading.{Reading, reading}
use Rattle.message.specs.Layout.{Layout}
use Rattle.message.specs.Content.{lot_total_operation, session_total_operation}

-- position, bytes, rule
unfoldable pub lot_total_fields : List Field
lot_total_fields =
    field 4 2 any  -- order number
    ∷ field 6 3 any  -- documents
    ∷ amount 9 8  -- nominal
    ∷ amount 17 6  -- commission
    ∷ []

unfoldable pub session_total_fields : List Field
session_total_fields =
    field 4 2 any  -- lots
    ∷ field 6 4 any  -- documents
    ∷ amount 10 9  -- nominal
    ∷ amount 19 7  -- commission
    ∷ []

-- 22 bytes, operation 80
abbrev pub lot_total : Layout
lot_total = record { bytes = lot_total_bytes; operation = lot_total_operation; fields = lot_total_fields }

-- 25 bytes, operation 90
abbrev pub session_total : Layout
session_total = record { bytes = session_total_bytes; operation = session_total_operation; fields = session_total_fields }

-- the numbers of a total, in the order of the tables
abbrev pub total_values : Total → List ℕ
total_values t = t.number ∷ t.stated.documents.0 ∷ t.stated.nominal.0 ∷ t.stated.commission.0 ∷ []

-- and a total of the numbers that a body holds by such a table, row after row
abbrev pub total_of : List Field → List ℕ → Total
total_of fields body = let v = get_or (table_numbers first_position fields body) in record { number = v 0 0; stated = totals (v 1 0) (v 2 0) (v 3 0) }

-- what the answer of a reading says
abbrev pub total_said : Result Total Code → Reading
total_said (Ok t) = reading 0 (total_values t)
total_said (Err c) = reading (code_number c) []
