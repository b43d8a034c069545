-- 02, card 7: slices, lots and calls at the edges, computed from the definitions. Most are of files with three rows and lots of at most two documents,
-- whose table has 30 bytes; what the numbers in force give is beside them.
use mathlib.Core.Path.{refl}
use mathlib.Core.Bool.{true, false}
use mathlib.Core.List.{List, [], ◌∷◌, ◌++◌, flat_map}
use Prim.Native.Nat.{ℕ}
use lib.ListN.{take, set, replicate}
use Rattle.packed.specs.Every.{every, member, none_twice}
use Rattle.packed.specs.Pieces.{cut}
use Rattle.codes.specs.Chain.{◌when◌, ◌orelse◌}
use Rattle.codes.specs.Numbered.{numbered}
use Rattle.codes.proofs.Cases.{◌is◌, AllDue}
use Rattle.session.specs.Limits.{most_lots, most_lot_documents}
use Rattle.lot_file.specs.Layout.{binary, binary_bytes, bytes_of, rows_of, table_of, bodies_of, file_of}
use Rattle.lot_file.specs.Good.{row_in, rows_in, used, row_good, in_order, end_of, good}
use Rattle.lot_file.specs.Reading.{lots_in, body_in, row_for, absent_refusal, found, body_found}
use Rattle.lot_file.specs.Adding.{add_refusal, added}
use Rattle.lot_file.specs.TakingOut.{without, taken_out}

-- so many bytes of one value; a row of zeros
run : (count byte : ℕ) → List ℕ
run count byte = replicate count byte

none : List ℕ
none = run 10 0

-- lot 7 with one document, and lot 9 with two: their rows, byte by byte, and the file with ten bytes behind it
first : List ℕ
first = 0 ∷ 7 ∷ 0 ∷ 0 ∷ 0 ∷ 30 ∷ 0 ∷ 0 ∷ 0 ∷ 1 ∷ []

second : List ℕ
second = 0 ∷ 9 ∷ 0 ∷ 0 ∷ 0 ∷ 81 ∷ 0 ∷ 0 ∷ 0 ∷ 2 ∷ []

both_lots : List ℕ
both_lots = first ++ second ++ none ++ run 51 1 ++ run 102 2 ++ run 10 8

good_slices : AllDue
    (good 3 2 both_lots is true
    ∷ good 3 2 (run 30 0) is true
    -- the last body ends with the slice, or one byte outside; a table that is cut
    ∷ good 3 2 (take 183 both_lots) is true
    ∷ good 3 2 (take 182 both_lots) is false
    ∷ good 3 2 (run 29 0) is false
    ∷ good 3 2 [] is false
    -- a gap, an overlap, and a first body that is not right after the table
    ∷ good 3 2 (set both_lots 15 82) is false
    ∷ good 3 2 (set both_lots 15 80) is false
    ∷ good 3 2 (set both_lots 5 31) is false
    ∷ good 3 2 (set both_lots 5 29) is false
    ∷ good 3 2 (set both_lots 3 1) is false
    -- a used row after an unused one, and rows that are partly zero
    ∷ good 3 2 (none ++ first ++ none ++ run 51 1) is false
    ∷ good 3 2 (set both_lots 29 1) is false
    ∷ good 3 2 (set both_lots 25 183) is false
    ∷ good 3 2 (set both_lots 21 8) is false
    -- order numbers 0, 9999, 10,000, and two alike
    ∷ good 3 2 (set both_lots 1 0) is false
    ∷ good 3 2 (set (set both_lots 0 39) 1 15) is true
    ∷ good 3 2 (set (set both_lots 0 39) 1 16) is false
    ∷ good 3 2 (set both_lots 11 7) is false
    ∷ good 3 2 (set (set both_lots 0 1) 1 9) is true
    -- no documents, and one more than the limit
    ∷ good 3 2 (set both_lots 9 0) is false
    ∷ good 3 1 both_lots is false
    -- the file of one lot with 64 rows, and 640 zero bytes, and 639
    ∷ good most_lots most_lot_documents (0 ∷ 7 ∷ 0 ∷ 0 ∷ 2 ∷ 128 ∷ 0 ∷ 0 ∷ 0 ∷ 1 ∷ run 630 0 ++ run 51 5) is true
    ∷ good most_lots most_lot_documents (run 640 0) is true
    ∷ good most_lots most_lot_documents (run 639 0) is false
    -- the lot limit in force
    ∷ row_good most_lot_documents (record { number = 1; start = 0; documents = 2600 }) is true
    ∷ row_good most_lot_documents (record { number = 1; start = 0; documents = 2601 }) is false
    ∷ [])
unfolding good rows_in row_in binary used in_order end_of none_twice every member cut run none first second both_lots
good_slices = refl

-- finding: where the body starts, and how many documents it has; taking out answers alike
finding : AllDue
    (found 3 2 both_lots 7 is record { code = 0; start = 30; documents = 1 }
    ∷ found 3 2 both_lots 9 is record { code = 0; start = 81; documents = 2 }
    ∷ found 3 2 both_lots 8 is record { code = 46; start = 0; documents = 0 }
    ∷ found 3 2 both_lots 9999 is record { code = 46; start = 0; documents = 0 }
    ∷ found 3 2 both_lots 0 is record { code = 25; start = 0; documents = 0 }
    ∷ found 3 2 both_lots 10000 is record { code = 25; start = 0; documents = 0 }
    ∷ found 3 2 (set both_lots 15 82) 7 is record { code = 25; start = 0; documents = 0 }
    ∷ found 3 2 (set both_lots 15 82) 8 is record { code = 25; start = 0; documents = 0 }
    ∷ [])
unfolding found absent_refusal row_for numbered ◌when◌ ◌orelse◌ good rows_in row_in binary used in_order end_of none_twice every member cut run none first second both_lots
finding = refl

bodies : AllDue
    (body_found 3 2 both_lots 7 is run 51 1
    ∷ body_found 3 2 both_lots 9 is run 102 2
    ∷ body_found 3 2 both_lots 8 is []
    ∷ body_found 3 2 (set both_lots 15 82) 7 is []
    ∷ [])
unfolding body_found body_in lots_in absent_refusal numbered ◌when◌ ◌orelse◌ good rows_in row_in binary used in_order end_of none_twice every member cut run none first second both_lots
bodies = refl

-- the order of codes in adding: a table that is full, and no room in it
full : List ℕ
full = first ++ second ++ run 51 1 ++ run 102 2

adding : AllDue
    -- with two rows, whose table has 20 bytes
    (add_refusal 2 2 (set (set full 5 20) 15 71) 7 (run 51 3) is 4
    ∷ add_refusal 2 2 (set (set full 5 20) 15 71) 8 (run 51 3) is 45
    ∷ add_refusal 2 2 (set (set full 5 20) 15 71 ++ run 102 0) 8 (run 51 3) is 45
    ∷ add_refusal 2 2 (set (set full 5 20) 15 71) 0 (run 51 3) is 25
    ∷ add_refusal 2 2 (set (set full 5 20) 15 71) 10000 (run 51 3) is 25
    ∷ absent_refusal 2 2 (set (set full 5 20) 15 71) 8 is 46
    -- exactly enough room, and a byte less; a number that is there comes first
    ∷ add_refusal 3 2 (both_lots ++ run 41 8) 8 (run 51 3) is 0
    ∷ add_refusal 3 2 (both_lots ++ run 40 8) 8 (run 51 3) is 45
    ∷ add_refusal 3 2 (both_lots ++ run 40 8) 9 (run 51 3) is 4
    -- trays: none, not whole, as long as the limit, and longer; a bad slice or tray comes first
    ∷ add_refusal 3 2 (both_lots ++ run 92 8) 8 [] is 25
    ∷ add_refusal 3 2 (both_lots ++ run 92 8) 8 (run 50 3) is 25
    ∷ add_refusal 3 2 (both_lots ++ run 92 8) 8 (run 52 3) is 25
    ∷ add_refusal 3 2 (both_lots ++ run 92 8) 8 (run 102 3) is 0
    ∷ add_refusal 3 2 (both_lots ++ run 143 8) 8 (run 153 3) is 25
    ∷ add_refusal 3 2 both_lots 9 [] is 25
    ∷ add_refusal 3 2 (set both_lots 15 82) 9 (run 51 3) is 25
    ∷ [])
unfolding add_refusal absent_refusal ◌when◌ ◌orelse◌ good rows_in row_in binary used in_order end_of none_twice every member cut run none first second both_lots full
adding = refl

-- every byte: a lot added, and each of the two taken out
changed : AllDue
    (added 3 2 (both_lots ++ run 45 8) 258 (run 51 3) is (first ++ second ++ 1 ∷ 2 ∷ 0 ∷ 0 ∷ 0 ∷ 183 ∷ 0 ∷ 0 ∷ 0 ∷ 1 ∷ run 51 1 ++ run 102 2 ++ run 51 3 ++ run 4 8)
    ∷ added 3 2 both_lots 8 (run 51 3) is both_lots
    ∷ taken_out 3 2 both_lots 7 is (0 ∷ 9 ∷ 0 ∷ 0 ∷ 0 ∷ 30 ∷ 0 ∷ 0 ∷ 0 ∷ 2 ∷ none ++ none ++ run 102 2 ++ run 51 2 ++ run 10 8)
    ∷ taken_out 3 2 both_lots 9 is (first ++ none ++ none ++ run 51 1 ++ run 102 2 ++ run 10 8)
    ∷ taken_out 3 2 both_lots 8 is both_lots
    ∷ [])
unfolding added taken_out without file_of table_of rows_of bodies_of bytes_of binary_bytes flat_map lots_in add_refusal absent_refusal ◌when◌ ◌orelse◌ good rows_in row_in binary used in_order end_of none_twice every member cut run none first second both_lots
changed = refl
