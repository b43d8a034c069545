-- What a good slice is: the file of the lots that it holds, and the bytes past it.
use mathlib.Core.Path.{◌≡◌, refl, ap, sym, ◌∙◌}
use mathlib.Core.Bool.{true, ◌&&◌}
use mathlib.Core.List.{List, [], ◌∷◌, ◌++◌, flat_map}
use Prim.Native.Nat.{ℕ, ◌+◌, ◌-◌, ◌≤◌}
use native.Mathlib.Omega.{arith}
use lib.Dec.{eqb, leb}
use lib.ListN.{length, take, drop, replicate, length-map, take-append-drop}
use lib.Seq.{take-add}
use borrow.Author.Tests.{eqb-true, leb-true}
use Rattle.packed.specs.Part.{part}
use Rattle.packed.specs.Every.{every, none_twice}
use Rattle.packed.proofs.Laws.Told.{both}
use Rattle.packed.proofs.Laws.Every.{every_cons}
use Rattle.packed.proofs.Laws.Part.{part_length}
use Rattle.lot_file.specs.Layout.{table_bytes, bytes_of, rows_of, table_of, bodies_of, file_of}
use Rattle.lot_file.specs.Good.{rows_in, used_rows, numbers_of, row_good, in_order, end_of, rest_zero, good}
use Rattle.lot_file.specs.Reading.{lot_at, lots_in}
use Rattle.lot_file.specs.Adding.{lot_good}
use Rattle.lot_file.proofs.Laws.Binary.{Bytes}
use Rattle.lot_file.proofs.Laws.Rows.{rows_length, rows_bytes, used_few, used_first}
use Rattle.lot_file.proofs.Laws.Lots.{end_behind, read_rows, read_bodies, read_good}

-- the clauses of a good slice
pub record Sound (rows most : ℕ) (slice : List ℕ) : Type 0 where
  pub table : table_bytes rows ≤ length slice
  pub each : every (row_good most) (used_rows rows slice) ≡ true
  pub alike : none_twice (numbers_of (used_rows rows slice)) ≡ true
  pub ordered : in_order (table_bytes rows) (used_rows rows slice) ≡ true
  pub room : end_of (table_bytes rows) (used_rows rows slice) ≤ length slice
  pub zeros : rest_zero rows slice ≡ true

-- a run of zeros
zero_run : (bs : List ℕ) → every (λ (b : ℕ). eqb b 0) bs ≡ true → bs ≡ replicate (length bs) 0
unfolding every
zero_run [] e = refl
zero_run (b ∷ bs) e =
    let first = every_cons (λ (x : ℕ). eqb x 0) b bs e in
    λ i. eqb-true b 0 first.0 i ∷ zero_run bs first.1 i

module _ (rows most : ℕ) (slice : List ℕ) where
  pub sound : good rows most slice ≡ true → Sound rows most slice
  unfolding good
  sound e =
      let a = leb (table_bytes rows) (length slice) in
      let b = every (row_good most) (used_rows rows slice) in
      let c = none_twice (numbers_of (used_rows rows slice)) in
      let d = in_order (table_bytes rows) (used_rows rows slice) in
      let f = leb (end_of (table_bytes rows) (used_rows rows slice)) (length slice) in
      let last = both (a && b && c && d && f) (rest_zero rows slice) e in
      let fifth = both (a && b && c && d) f last.0 in
      let fourth = both (a && b && c) d fifth.0 in
      let third = both (a && b) c fourth.0 in
      let first = both a b third.0 in
      record {
        table = leb-true (table_bytes rows) (length slice) first.0;
        each = first.1;
        alike = third.1;
        ordered = fourth.1;
        room = leb-true (end_of (table_bytes rows) (used_rows rows slice)) (length slice) fifth.1;
        zeros = last.1;
      }

-- how many rows are used, as numbers and as rows of the slice
module _ (rows : ℕ) (slice : List ℕ) (table : table_bytes rows ≤ length slice) where
  pub used_rows_lem : length (used_rows rows slice) ≤ rows
  used_rows_lem = omega (arith, used_few (rows_in rows slice), rows_length rows slice table)

  pub used_are : used_rows rows slice ≡ rows_in (length (used_rows rows slice)) slice
  used_are = used_first rows slice table

module _ (rows most : ℕ) (slice : List ℕ) (s : Sound rows most slice) where
  pub lots_count : length (lots_in rows slice) ≡ length (used_rows rows slice)
  unfolding lots_in
  lots_count = length-map (used_rows rows slice) (lot_at slice)

  pub held_rows : rows_of (table_bytes rows) (lots_in rows slice) ≡ used_rows rows slice
  unfolding lots_in
  held_rows = read_rows slice (table_bytes rows) (used_rows rows slice) s.ordered s.room

  pub held_bodies : bodies_of (lots_in rows slice) ≡ part (table_bytes rows) (end_of (table_bytes rows) (used_rows rows slice) - table_bytes rows) slice
  unfolding lots_in
  held_bodies = read_bodies slice (table_bytes rows) (used_rows rows slice) s.ordered s.room

  pub held_good : every (lot_good most) (lots_in rows slice) ≡ true
  unfolding lots_in
  held_good = read_good slice most (table_bytes rows) (used_rows rows slice) s.each s.ordered s.room

  -- the file of its lots is the slice up to the last body
  pub held_file : Bytes slice → file_of rows (lots_in rows slice) ≡ take (end_of (table_bytes rows) (used_rows rows slice)) slice
  unfolding file_of table_of
  held_file bytes =
      let u = length (used_rows rows slice) in
      let few = used_rows_lem rows slice s.table in
      let end = end_of (table_bytes rows) (used_rows rows slice) in
      let behind = end_behind (table_bytes rows) (used_rows rows slice) in
      let rest = part (table_bytes u) (table_bytes rows - table_bytes u) slice in
      let size = part_length (table_bytes u) (table_bytes rows - table_bytes u) slice (omega (arith, s.table)) in
      let front = ap (flat_map bytes_of) (held_rows ∙ used_are rows slice s.table) ∙ rows_bytes u slice bytes (omega (arith, s.table)) in
      let unused : table_bytes (rows - length (lots_in rows slice)) ≡ length rest = omega (arith, lots_count) in
      let zeros = ap (λ (n : ℕ). replicate n 0) unused ∙ sym (zero_run rest s.zeros) in
      let table : table_bytes u + (table_bytes rows - table_bytes u) ≡ table_bytes rows = omega arith in
      let all : table_bytes rows + (end - table_bytes rows) ≡ end = omega arith in
      let joined = sym (take-add (table_bytes u) (table_bytes rows - table_bytes u) slice) ∙ ap (λ (n : ℕ). take n slice) table in
      (λ i. front i ++ zeros i ++ held_bodies i)
      ∙ ap (λ (l : List ℕ). l ++ part (table_bytes rows) (end - table_bytes rows) slice) joined
      ∙ sym (take-add (table_bytes rows) (end - table_bytes rows) slice)
      ∙ ap (λ (n : ℕ). take n slice) all

  -- so the slice is that file and what lies behind it
  pub held : Bytes slice → slice ≡ file_of rows (lots_in rows slice) ++ drop (end_of (table_bytes rows) (used_rows rows slice)) slice
  held bytes =
      let end = end_of (table_bytes rows) (used_rows rows slice) in
      sym (ap (λ (l : List ℕ). l ++ drop end slice) (held_file bytes) ∙ take-append-drop end slice)
