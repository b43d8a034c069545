-- 02, card 7: the lots that a slice holds, and one of them found by its order number.
use Rattle.std.specs.Prelude.{ℕ, Bool, not, ◌&&◌, cond, List, [], map, eqb}
use Rattle.packed.specs.Part.{part}
use Rattle.packed.specs.Every.{member}
use Rattle.codes.specs.Chain.{◌when◌, ◌orelse◌}
use Rattle.codes.specs.Numbered.{numbered}
use Rattle.lot_file.specs.declared.row.Row.{Row}
use Rattle.lot_file.specs.declared.answers.FindShown.{FindShown}
use Rattle.lot_file.specs.Layout.{Stored}
use Rattle.lot_file.specs.Good.{used_rows, numbers_of, body_bytes, order_number, good}

-- the lot of a row
abbrev pub lot_at : (slice : List ℕ) → Row → Stored
lot_at slice r = record { number = r.number; body = part r.start (body_bytes r) slice }

-- all of them, in the order of their rows
unfoldable pub lots_in : (rows : ℕ) (slice : List ℕ) → List Stored
lots_in rows slice = map (lot_at slice) (used_rows rows slice)

-- the documents of the lot that has a number; nothing where no lot has it
unfoldable pub body_in : List Stored → (number : ℕ) → List ℕ
body_in lots number = numbered (λ (lot : Stored). lot.number) (λ (lot : Stored). lot.body) [] lots number

-- a row has the number
abbrev pub present : (rows : ℕ) (slice : List ℕ) (number : ℕ) → Bool
present rows slice number = member number (numbers_of (used_rows rows slice))

-- the row itself; one of zeros where there is none
abbrev pub no_row : Row
no_row = record { number = 0; start = 0; documents = 0 }

unfoldable pub row_for : List Row → (number : ℕ) → Row
row_for rs number = numbered (λ (r : Row). r.number) (λ (r : Row). r) no_row rs number

-- the check of a slice
unfoldable pub check_refusal : (rows most : ℕ) (slice : List ℕ) → ℕ
check_refusal rows most slice = 25 when not (good rows most slice)

-- 'A slice that breaks these rules, or an order number outside its range, gets 25'; 'an absent lot gives 46'. Finding and taking out answer alike
unfoldable pub absent_refusal : (rows most : ℕ) (slice : List ℕ) (number : ℕ) → ℕ
absent_refusal rows most slice number =
    25 when not (good rows most slice && order_number number)
    orelse 46 when not (present rows slice number)

-- the row that an unrefused call finds
abbrev pub found_row : (rows most : ℕ) (slice : List ℕ) (number : ℕ) → Row
found_row rows most slice number = cond (eqb (absent_refusal rows most slice number) 0) (row_for (used_rows rows slice) number) no_row

unfoldable pub found : (rows most : ℕ) (slice : List ℕ) (number : ℕ) → FindShown
found rows most slice number =
    let r = found_row rows most slice number in
    record { code = absent_refusal rows most slice number; start = r.start; documents = r.documents }

-- the documents that it hands out, as a part of the slice; none beside a code
unfoldable pub body_found : (rows most : ℕ) (slice : List ℕ) (number : ℕ) → List ℕ
body_found rows most slice number = cond (eqb (absent_refusal rows most slice number) 0) (body_in (lots_in rows slice) number) []
