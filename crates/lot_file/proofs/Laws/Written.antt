-- What a written file is: good, and holding the lots that it was written of.
use mathlib.Core.Path.{◌≡◌, refl, ap, sym, ◌∙◌}
use mathlib.Core.Bool.{true, ◌&&◌}
use mathlib.Core.List.{List, [], ◌++◌, map, flat_map, append_assoc, append-nil}
use Prim.Native.Nat.{ℕ, zero, suc, ◌+◌, ◌-◌, ◌≤◌, ◌<◌}
use native.Mathlib.Omega.{arith}
use lib.Dec.{eqb}
use lib.ListN.{length, take, drop, replicate, length-append, length-replicate, replicate-append-replicate}
use lib.Seq.{take_at, drop_at}
use borrow.Author.Tests.{le-leb}
use Rattle.packed.specs.Part.{part}
use Rattle.packed.specs.Every.{every, none_twice}
use Rattle.packed.specs.Pieces.{cut}
use Rattle.lot_file.specs.declared.row.Row.{Row}
use Rattle.lot_file.specs.Layout.{Stored, binary_bytes, bytes_of, row_bytes, table_bytes, rows_of, table_of, bodies_of, file_of}
use Rattle.lot_file.specs.Good.{rows_in, used, used_rows, numbers_of, row_good, in_order, end_of, rest_zero, good}
use Rattle.lot_file.specs.Reading.{no_row, lot_at, lots_in}
use Rattle.lot_file.specs.Adding.{lot_good}
use Rattle.lot_file.proofs.Laws.Rows.{rows_written, used_stop}
use Rattle.lot_file.proofs.Laws.Lots.{lot_numbers, rows_good_lem, rows_in_order, rows_end, rows_stand, rows_used, lots_read, rows_numbers, rows_count, table_count}

-- lots that a file may hold together: not more than rows, each of them good, no two alike, and starts that fit their four bytes
pub record Valid (rows most : ℕ) (lots : List Stored) : Type 0 where
  pub few : length lots ≤ rows
  pub each : every (lot_good most) lots ≡ true
  pub alike : none_twice (lot_numbers lots) ≡ true
  pub small : table_bytes rows + length (bodies_of lots) < 4294967296

-- no row of zeros is used
zero_row : replicate row_bytes 0 ≡ bytes_of no_row
unfolding bytes_of binary_bytes
zero_row = refl

zero_rows : (k : ℕ) (rest : List ℕ) → used (rows_in k (replicate (table_bytes k) 0 ++ rest)) ≡ []
unfolding used rows_in cut
zero_rows zero rest = refl
zero_rows (suc k) rest =
    let more : table_bytes (suc k) ≡ row_bytes + table_bytes k = omega arith in
    let later : List ℕ = replicate (table_bytes k) 0 in
    ap (λ (n : ℕ). used (rows_in (suc k) (replicate {A = ℕ} n 0 ++ rest))) more
    ∙ ap (λ (l : List ℕ). used (rows_in (suc k) (l ++ rest))) (sym (replicate-append-replicate {A = ℕ} row_bytes (table_bytes k) 0))
    ∙ ap (λ (l : List ℕ). used (rows_in (suc k) l)) (append_assoc (replicate row_bytes 0) later rest ∙ ap (λ (l : List ℕ). l ++ (later ++ rest)) zero_row)
    ∙ ap used (rows_written no_row k (later ++ rest) (record { number = omega arith; start = omega arith; documents = omega arith }))
    ∙ used_stop no_row (rows_in k (later ++ rest)) refl

all_zero : (n : ℕ) → every (λ (b : ℕ). eqb b 0) (replicate n 0) ≡ true
unfolding every
all_zero zero = refl
all_zero (suc n) = all_zero n

module _ (rows most : ℕ) (lots : List Stored) (v : Valid rows most lots) where
  pub table_length : length (table_of rows lots) ≡ table_bytes rows
  unfolding table_of
  table_length =
      length-append (flat_map bytes_of (rows_of (table_bytes rows) lots)) (replicate (table_bytes (rows - length lots)) 0)
      ∙ omega (arith, table_count (table_bytes rows) lots, length-replicate {A = ℕ} (table_bytes (rows - length lots)) 0, v.few)

  pub file_length : length (file_of rows lots) ≡ table_bytes rows + length (bodies_of lots)
  unfolding file_of
  file_length = length-append (table_of rows lots) (bodies_of lots) ∙ ap (λ (n : ℕ). n + length (bodies_of lots)) table_length

  -- with anything behind it
  module _ (rest : List ℕ) where
    abbrev unused : List ℕ
    unused = replicate (table_bytes (rows - length lots)) 0

    rows_first : file_of rows lots ++ rest ≡ flat_map bytes_of (rows_of (table_bytes rows) lots) ++ (unused ++ (bodies_of lots ++ rest))
    unfolding file_of table_of
    rows_first =
        append_assoc (flat_map bytes_of (rows_of (table_bytes rows) lots) ++ unused) (bodies_of lots) rest
        ∙ append_assoc (flat_map bytes_of (rows_of (table_bytes rows) lots)) unused (bodies_of lots ++ rest)

    pub written_rows : used_rows rows (file_of rows lots ++ rest) ≡ rows_of (table_bytes rows) lots
    written_rows =
        let k = rows - length lots in
        let all : rows ≡ length lots + k = omega (arith, v.few) in
        (λ i. used (rows_in (all i) (rows_first i)))
        ∙ ap used (rows_stand most (table_bytes rows) lots k (unused ++ (bodies_of lots ++ rest)) v.each v.small)
        ∙ rows_used most (table_bytes rows) lots (rows_in k (unused ++ (bodies_of lots ++ rest))) v.each
        ∙ ap (λ (l : List Row). rows_of (table_bytes rows) lots ++ l) (zero_rows k (bodies_of lots ++ rest))
        ∙ append-nil (rows_of (table_bytes rows) lots)

    pub written_lots : lots_in rows (file_of rows lots ++ rest) ≡ lots
    unfolding lots_in file_of
    written_lots =
        let slice = file_of rows lots ++ rest in
        ap (map (lot_at slice)) written_rows
        ∙ lots_read most slice (table_bytes rows) lots rest v.each
        (ap (drop (table_bytes rows)) (append_assoc (table_of rows lots) (bodies_of lots) rest) ∙ drop_at (table_of rows lots) (bodies_of lots ++ rest) (table_bytes rows) table_length)

    written_end : end_of (table_bytes rows) (used_rows rows (file_of rows lots ++ rest)) ≡ length (file_of rows lots)
    written_end = ap (end_of (table_bytes rows)) written_rows ∙ rows_end most (table_bytes rows) lots v.each ∙ sym file_length

    written_zeros : rest_zero rows (file_of rows lots ++ rest) ≡ true
    written_zeros =
        let n = length lots in
        let used-count = ap length written_rows ∙ rows_count (table_bytes rows) lots in
        let width : table_bytes rows - table_bytes n ≡ table_bytes (rows - n) = omega (arith, v.few) in
        ap (λ (k : ℕ). every (λ (b : ℕ). eqb b 0) (part (table_bytes k) (table_bytes rows - table_bytes k) (file_of rows lots ++ rest))) used-count
        ∙ (λ i. every (λ (b : ℕ). eqb b 0) (take (width i) (drop (table_bytes n) (rows_first i))))
        ∙ ap (λ (l : List ℕ). every (λ (b : ℕ). eqb b 0) (take (table_bytes (rows - n)) l))
        (drop_at (flat_map bytes_of (rows_of (table_bytes rows) lots)) (unused ++ (bodies_of lots ++ rest)) (table_bytes n) (table_count (table_bytes rows) lots))
        ∙ ap (every (λ (b : ℕ). eqb b 0)) (take_at unused (bodies_of lots ++ rest) (table_bytes (rows - n)) (length-replicate (table_bytes (rows - n)) 0))
        ∙ all_zero (table_bytes (rows - n))

    pub written_good : good rows most (file_of rows lots ++ rest) ≡ true
    unfolding good
    written_good =
        let slice = file_of rows lots ++ rest in
        let size = length-append (file_of rows lots) rest in
        let table = le-leb (table_bytes rows) (length slice) (omega (arith, file_length)) in
        let room = le-leb (end_of (table_bytes rows) (used_rows rows slice)) (length slice) (omega (arith, written_end)) in
        let each = ap (every (row_good most)) written_rows ∙ rows_good_lem most (table_bytes rows) lots v.each in
        let alike = ap (λ (l : List Row). none_twice (numbers_of l)) written_rows ∙ ap none_twice (rows_numbers (table_bytes rows) lots) ∙ v.alike in
        let ordered = ap (in_order (table_bytes rows)) written_rows ∙ rows_in_order most (table_bytes rows) lots v.each in
        λ i. table i && each i && alike i && ordered i && room i && written_zeros i
