-- 01, 'Layouts': a table of fields, with the columns that the paper prints.
use Rattle.std.specs.Prelude.{ℕ, ◌-◌, ◌^◌, Bool, true, false, ◌&&◌, cond, List, [], ◌∷◌, ◌++◌, map, eqb, leb, ltb}
use Rattle.packed.specs.Part.{part}
use Rattle.packed.specs.Every.{every}
use Rattle.packed.specs.Digits.{are_digits}
use Rattle.packed.specs.Number.{number}
use Rattle.packed.specs.Writing.{packed_bytes}

-- a row of a table
pub record Field : Type 0 where
  pub position : ℕ  -- of its first byte, as printed
  pub width : ℕ  -- in bytes
  pub code : ℕ  -- what a fault in it earns
  pub rule : ℕ → Bool  -- the values that it takes

-- 'A field with no stated range takes any digits'
abbrev pub any : ℕ → Bool
any v = true

-- a field with a range
abbrev pub between : (least most v : ℕ) → Bool
between least most v = leb least v && leb v most

-- a field with one value
abbrev pub exactly : (wanted v : ℕ) → Bool
exactly wanted v = eqb v wanted

-- a row, by the code of its fault
abbrev pub row : (code position width : ℕ) → (ℕ → Bool) → Field
row c p w rule = record { position = p; width = w; code = c; rule = rule }

-- a field with a rule, whose fault is 01
abbrev pub field : (position width : ℕ) → (ℕ → Bool) → Field
field p w rule = row 1 p w rule

-- a nominal or a commission: a non-digit in it is 03, and the table takes any value
abbrev pub amount : (position width : ℕ) → Field
amount p w = row 3 p w any

-- bytes that nobody reads: the key
abbrev pub unread : (position width : ℕ) → Field
unread p w = row 0 p w any

-- the bytes at a printed position, in a layout whose first byte has the position `first`
abbrev pub bytes_at : (first position width : ℕ) → List ℕ → List ℕ
bytes_at first position width s = part (position - first) width s

-- the number that it holds
abbrev pub field_number : (first : ℕ) → List ℕ → Field → ℕ
field_number first s f = number (bytes_at first f.position f.width s)

-- digits throughout
abbrev pub field_digits : (first : ℕ) → List ℕ → Field → Bool
field_digits first s f = are_digits (bytes_at first f.position f.width s)

-- a value that the field takes
abbrev pub field_value : (first : ℕ) → List ℕ → Field → Bool
field_value first s f = f.rule (field_number first s f)

-- both
abbrev pub field_good : (first : ℕ) → List ℕ → Field → Bool
field_good first s f = field_digits first s f && field_value first s f

-- the rows whose fault is a code
unfoldable pub earning : (code : ℕ) → List Field → List Field
earning code [] = []
earning code (f ∷ fs) = cond (eqb f.code code) (f ∷ earning code fs) (earning code fs)

-- all of them good
abbrev pub table_good : (first code : ℕ) → List Field → List ℕ → Bool
table_good first code fields s = every (field_good first s) (earning code fields)

-- the numbers of all rows, in order
abbrev pub table_numbers : (first : ℕ) → List Field → List ℕ → List ℕ
table_numbers first fields s = map (field_number first s) fields

-- numbers that the rows take, one for each: short enough for the width, and by the rule
unfoldable pub table_takes : List Field → List ℕ → Bool
table_takes [] [] = true
table_takes [] (v ∷ vs) = false
table_takes (f ∷ fs) [] = false
table_takes (f ∷ fs) (v ∷ vs) = ltb v (100 ^ f.width) && f.rule v && table_takes fs vs

-- numbers as they are written, one after the other in the widths of the rows, which is their place where the rows adjoin
unfoldable pub table_written : List Field → List ℕ → List ℕ
table_written [] vs = []
table_written (f ∷ fs) [] = []
table_written (f ∷ fs) (v ∷ vs) = packed_bytes f.width v ++ table_written fs vs
