-- 02, card 7: how lots are laid out in a file. It begins with a table of contents of so many rows, of 10 bytes each, and the bodies stand behind
-- it. How many rows there are is a parameter, as in the other files here.
use Rattle.std.specs.Prelude.{ℕ, zero, suc, ◌+◌, ◌-◌, ◌*◌, ◌^◌, ◌/◌, ◌%◌, length, drop, replicate}
use mathlib.Core.List.{List, [], ◌∷◌, ◌++◌, flat_map}
use Rattle.document.specs.Part.{count_in}
use Rattle.lot_file.specs.declared.row.Row.{Row}

-- 'high byte first': the number that some bytes are, each weighing 256 times the one after it
unfoldable pub binary : List ℕ → ℕ
binary [] = 0
binary (b ∷ bs) = b * 256 ^ length bs + binary bs

-- a number as so many bytes
unfoldable pub binary_bytes : (n v : ℕ) → List ℕ
binary_bytes zero v = []
binary_bytes (suc n) v = v / 256 ^ n % 256 ∷ binary_bytes n v

-- 'A row has order number (2 bytes), start (4, counted from the slice's first byte, 0) and documents (4)'
unfoldable pub bytes_of : Row → List ℕ
bytes_of r = binary_bytes 2 r.number ++ binary_bytes 4 r.start ++ binary_bytes 4 r.documents

abbrev pub row_bytes : ℕ
row_bytes = 10

abbrev pub table_bytes : (rows : ℕ) → ℕ
table_bytes rows = rows * row_bytes

-- a lot that a file holds: its order number and its documents, one behind the other
pub record Stored : Type 0 where
  pub number : ℕ
  pub body : List ℕ

-- its row, with the place where the body starts
abbrev pub row_of : (start : ℕ) → Stored → Row
row_of start lot = record { number = lot.number; start = start; documents = count_in lot.body }

-- the rows of some lots, whose bodies stand 'in the order of their rows' from a place on, 'without gaps'
unfoldable pub rows_of : (start : ℕ) → List Stored → List Row
rows_of start [] = []
rows_of start (lot ∷ lots) = row_of start lot ∷ rows_of (start + length lot.body) lots

-- the table: 'unused rows are zero and come last', and 'the first body right after the table'
unfoldable pub table_of : (rows : ℕ) → List Stored → List ℕ
table_of rows lots = flat_map bytes_of (rows_of (table_bytes rows) lots) ++ replicate (table_bytes (rows - length lots)) 0

unfoldable pub bodies_of : List Stored → List ℕ
bodies_of lots = flat_map (λ (lot : Stored). lot.body) lots

-- the file of some lots
unfoldable pub file_of : (rows : ℕ) → List Stored → List ℕ
file_of rows lots = table_of rows lots ++ bodies_of lots

-- a slice that it is written into: 'bytes past the last body keep their values'
abbrev pub over : (file slice : List ℕ) → List ℕ
over file slice = file ++ drop (length file) slice
