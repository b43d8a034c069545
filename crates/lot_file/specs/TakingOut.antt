-- 02, card 7: 'A lot that its bank has collected is taken out, later rows and bodies move down, bytes past the new last body keep their values.'
use Rattle.std.specs.Prelude.{ℕ, cond, List, [], ◌∷◌, eqb}
use Rattle.lot_file.specs.Layout.{Stored, file_of, over}
use Rattle.lot_file.specs.Reading.{lots_in, absent_refusal}

-- the lots but the one of a number
unfoldable pub without : (number : ℕ) → List Stored → List Stored
without number [] = []
without number (lot ∷ lots) = cond (eqb number lot.number) lots (lot ∷ without number lots)

-- every byte of the slice: the file of the other lots, or as it was where the call is refused
unfoldable pub taken_out : (rows most : ℕ) (slice : List ℕ) (number : ℕ) → List ℕ
taken_out rows most slice number =
    cond (eqb (absent_refusal rows most slice number) 0) (over (file_of rows (without number (lots_in rows slice))) slice) slice
