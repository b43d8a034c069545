-- 02, card 7: which slices are lot files. The number of rows and the most documents of a lot are parameters: a change of either is a change of
-- session/specs/Limits alone, and a file with another number of rows is judged by the same words.
use Rattle.std.specs.Prelude.{ℕ, ◌+◌, ◌-◌, ◌*◌, Bool, true, ◌&&◌, cond, List, [], ◌∷◌, map, eqb, leb, length}
use Rattle.packed.specs.Part.{part}
use Rattle.packed.specs.Every.{every, none_twice}
use Rattle.packed.specs.Pieces.{cut}
use Rattle.codes.specs.Field.{between}
use Rattle.document.specs.Limits.{document_bytes}
use Rattle.message.specs.Limits.{largest_order_number}
use Rattle.lot_file.specs.declared.row.Row.{Row}
use Rattle.lot_file.specs.Layout.{binary, row_bytes, table_bytes}

-- the row that ten bytes make up
unfoldable pub row_in : List ℕ → Row
row_in bs = record { number = binary (part 0 2 bs); start = binary (part 2 4 bs); documents = binary (part 6 4 bs) }

-- the first rows of a slice
unfoldable pub rows_in : (rows : ℕ) (slice : List ℕ) → List Row
rows_in rows slice = map row_in (cut row_bytes rows slice)

-- the used ones: those before the first whose order number is 0
unfoldable pub used : List Row → List Row
used [] = []
used (r ∷ rs) = cond (eqb r.number 0) [] (r ∷ used rs)

abbrev pub used_rows : (rows : ℕ) (slice : List ℕ) → List Row
used_rows rows slice = used (rows_in rows slice)

abbrev pub numbers_of : List Row → List ℕ
numbers_of rs = map (λ (r : Row). r.number) rs

-- '51 bytes a document'
abbrev pub body_bytes : Row → ℕ
body_bytes r = r.documents * document_bytes

-- 'order number (1 to 9999)'
abbrev pub order_number : ℕ → Bool
order_number n = between 1 largest_order_number n

-- and 'documents (1 to the lot limit)'
abbrev pub row_good : (most : ℕ) → Row → Bool
row_good most r = order_number r.number && between 1 most r.documents

-- 'Bodies stand in the order of their rows, without gaps': each starts where the one before it ends, the first at a place
unfoldable pub in_order : (start : ℕ) → List Row → Bool
in_order start [] = true
in_order start (r ∷ rs) = eqb r.start start && in_order (start + body_bytes r) rs

-- where the last of them ends
unfoldable pub end_of : (start : ℕ) → List Row → ℕ
end_of start [] = start
end_of start (r ∷ rs) = end_of (start + body_bytes r) rs

-- 'unused rows are zero and come last': behind the used rows the table is zero
abbrev pub rest_zero : (rows : ℕ) (slice : List ℕ) → Bool
rest_zero rows slice =
    let taken = table_bytes (length (used_rows rows slice)) in
    every (λ (b : ℕ). eqb b 0) (part taken (table_bytes rows - taken) slice)

-- 25 otherwise: the table lies in the slice; each used row is good; of their order numbers 'no two alike'; the first body starts 'right after the
-- table' and each later one behind the one before; the last ends in the slice; and the unused rows are zero
unfoldable pub good : (rows most : ℕ) (slice : List ℕ) → Bool
good rows most slice =
    leb (table_bytes rows) (length slice)
    && every (row_good most) (used_rows rows slice)
    && none_twice (numbers_of (used_rows rows slice))
    && in_order (table_bytes rows) (used_rows rows slice)
    && leb (end_of (table_bytes rows) (used_rows rows slice)) (length slice)
    && rest_zero rows slice
