-- 02, card 7: 'A lot is added last, from the tray of its accepted documents, and bytes past its body keep their values.'
use Rattle.std.specs.Prelude.{ℕ, ◌-◌, Bool, not, ◌&&◌, ◌||◌, cond, List, [], ◌∷◌, ◌++◌, eqb, leb, ltb, length}
use Rattle.codes.specs.Chain.{◌when◌, ◌orelse◌}
use Rattle.codes.specs.Field.{between}
use Rattle.document.specs.Part.{is_whole, count_in}
use Rattle.lot_file.specs.Layout.{Stored, table_bytes, file_of, over}
use Rattle.lot_file.specs.Good.{used_rows, order_number, end_of, good}
use Rattle.lot_file.specs.Reading.{lots_in, present}

-- 25 for 'a tray that is empty, not whole documents or over the lot limit'
abbrev pub tray_good : (most : ℕ) (tray : List ℕ) → Bool
tray_good most tray = is_whole tray && between 1 most (count_in tray)

-- a lot that a file may hold
abbrev pub lot_good : (most : ℕ) → Stored → Bool
lot_good most lot = order_number lot.number && tray_good most lot.body

-- 'all rows are used or fewer bytes remain after the last body than the lot needs'
abbrev pub no_room : (rows : ℕ) (slice tray : List ℕ) → Bool
no_room rows slice tray =
    leb rows (length (used_rows rows slice)) || ltb (length slice - end_of (table_bytes rows) (used_rows rows slice)) (length tray)

-- 25 for slice, order number and tray; 'then a number already in a row gets 04'; 'past these 45'
unfoldable pub add_refusal : (rows most : ℕ) (slice : List ℕ) (number : ℕ) (tray : List ℕ) → ℕ
add_refusal rows most slice number tray =
    25 when not (good rows most slice && order_number number && tray_good most tray)
    orelse 4 when present rows slice number
    orelse 45 when no_room rows slice tray

-- the lots with one more
abbrev pub with_lot : (lots : List Stored) (number : ℕ) (body : List ℕ) → List Stored
with_lot lots number body = lots ++ record { number = number; body = body } ∷ []

-- every byte of the slice: the file of the lots with the new one last, or as it was where the call is refused
unfoldable pub added : (rows most : ℕ) (slice : List ℕ) (number : ℕ) (tray : List ℕ) → List ℕ
added rows most slice number tray =
    cond (eqb (add_refusal rows most slice number tray) 0) (over (file_of rows (with_lot (lots_in rows slice) number tray)) slice) slice
