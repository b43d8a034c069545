-- 01, 'Detail': the fields of a document. Positions are those of the first document of a group, as the paper prints them.
use Rattle.std.specs.Prelude.{ℕ, Bool, List, [], ◌∷◌}
use Rattle.codes.specs.Field.{Field, field, amount, unread, any, exactly, table_good}
use Rattle.document.specs.Rules.{identification, day_and_month, province, truncation, key_or_reason}

-- the printed position of a document's first byte
abbrev pub document_position : ℕ
document_position = 5

-- fields with a name: 06 reads the drawee, the totals read the two amounts, 44 the nominal; nothing reads the taker
abbrev pub drawee_field : Field
drawee_field = field 36 2 any

abbrev pub taker_field : Field
taker_field = field 18 2 any

abbrev pub nominal_field : Field
nominal_field = amount 30 6

abbrev pub commission_field : Field
commission_field = amount 48 4

-- position, bytes, rule
unfoldable pub document_fields : (operation receiving : ℕ) → List Field
document_fields operation receiving =
    field 5 5 any  -- reference
    ∷ field 10 2 identification
    ∷ field 12 4 any  -- number
    ∷ field 16 2 day_and_month
    ∷ taker_field
    ∷ field 20 2 any  -- its branch
    ∷ field 22 1 province
    ∷ field 23 2 (exactly receiving)  -- receiving entity
    ∷ field 25 1 province
    ∷ field 26 4 any  -- entity and branch for claims
    ∷ nominal_field
    ∷ drawee_field
    ∷ field 38 2 any  -- its branch
    ∷ field 40 5 any  -- account
    ∷ field 45 1 truncation
    ∷ field 46 2 (key_or_reason operation)
    ∷ commission_field
    ∷ unread 52 4  -- key
    ∷ []

-- no fault that earns 01
unfoldable pub fields_good : (operation receiving : ℕ) → List ℕ → Bool
fields_good operation receiving d = table_good document_position 1 (document_fields operation receiving) d

-- no fault that earns 03
unfoldable pub amounts_good : (operation receiving : ℕ) → List ℕ → Bool
amounts_good operation receiving d = table_good document_position 3 (document_fields operation receiving) d
