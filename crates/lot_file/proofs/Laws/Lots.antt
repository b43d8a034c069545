-- Laws of lots and their rows: how the rows of some lots are made, and how the lots of some rows are read.
use mathlib.Core.Path.{◌≡◌, refl, ap, sym, ◌∙◌}
use mathlib.Core.Bool.{true, ◌&&◌}
use mathlib.Core.List.{List, [], ◌∷◌, ◌++◌, map, flat_map, append_assoc}
use Prim.Native.Nat.{ℕ, suc, ◌+◌, ◌-◌, ◌*◌, ◌%◌, ◌≤◌, ◌<◌}
use native.Mathlib.Nat.{zero-add, add-zero, suc-add}
use native.Mathlib.Omega.{arith}
use lib.Dec.{eqb, leb}
use lib.ListN.{length, take, drop, length-append}
use lib.Seq.{drop-drop, take_at, drop_at}
use borrow.Author.Tests.{eqb-true, leb-true, eq-eqb, le-leb}
use Rattle.packed.specs.Part.{part}
use Rattle.packed.specs.Every.{every}
use Rattle.packed.proofs.Laws.Told.{both}
use Rattle.packed.proofs.Laws.Every.{every_cons}
use Rattle.packed.proofs.Laws.Part.{part_length, part_split}
use Rattle.document.specs.Limits.{document_bytes}
use Rattle.document.specs.Part.{count_in}
use Rattle.message.specs.Limits.{largest_order_number}
use Rattle.lot_file.specs.declared.row.Row.{Row}
use Rattle.lot_file.specs.Layout.{Stored, table_bytes, bytes_of, row_of, rows_of, bodies_of}
use Rattle.lot_file.specs.Good.{rows_in, used, numbers_of, body_bytes, order_number, row_good, in_order, end_of}
use Rattle.lot_file.specs.Reading.{lot_at}
use Rattle.lot_file.specs.Adding.{tray_good, lot_good}
use Rattle.lot_file.proofs.Laws.Rows.{bytes_count, rows_written, used_cons}

-- the order numbers of some lots
abbrev pub lot_numbers : List Stored → List ℕ
lot_numbers lots = map (λ (lot : Stored). lot.number) lots

-- what is known of a lot that a file may hold
pub record Told (most : ℕ) (lot : Stored) : Type 0 where
  pub least : 1 ≤ lot.number
  pub largest : lot.number ≤ largest_order_number
  pub whole : count_in lot.body * document_bytes ≡ length lot.body
  pub some : 1 ≤ count_in lot.body
  pub few : count_in lot.body ≤ most

module _ (most : ℕ) where
  pub told : (lot : Stored) → lot_good most lot ≡ true → Told most lot
  told lot e =
      let halves = both (order_number lot.number) (tray_good most lot.body) e in
      let number = both (leb 1 lot.number) (leb lot.number largest_order_number) halves.0 in
      let tray = both (eqb (length lot.body % document_bytes) 0) (leb 1 (count_in lot.body) && leb (count_in lot.body) most) halves.1 in
      let count = both (leb 1 (count_in lot.body)) (leb (count_in lot.body) most) tray.1 in
      record {
        least = leb-true 1 lot.number number.0;
        largest = leb-true lot.number largest_order_number number.1;
        whole = omega (arith, eqb-true (length lot.body % document_bytes) 0 tray.0);
        some = leb-true 1 (count_in lot.body) count.0;
        few = leb-true (count_in lot.body) most count.1;
      }

  -- rows that are made of lots
  pub rows_good_lem : (start : ℕ) (lots : List Stored) → every (lot_good most) lots ≡ true → every (row_good most) (rows_of start lots) ≡ true
  unfolding rows_of every
  rows_good_lem start [] e = refl
  rows_good_lem start (lot ∷ lots) e =
      let first = every_cons (lot_good most) lot lots e in
      let t = told lot first.0 in
      rw (le-leb 1 lot.number t.least, le-leb lot.number largest_order_number t.largest, le-leb 1 (count_in lot.body) t.some, le-leb (count_in lot.body) most t.few)
      (rows_good_lem (start + length lot.body) lots first.1)

  pub rows_in_order : (start : ℕ) (lots : List Stored) → every (lot_good most) lots ≡ true → in_order start (rows_of start lots) ≡ true
  unfolding rows_of in_order
  rows_in_order start [] e = refl
  rows_in_order start (lot ∷ lots) e =
      let first = every_cons (lot_good most) lot lots e in
      rw (eq-eqb start start refl, (told lot first.0).whole) (rows_in_order (start + length lot.body) lots first.1)

  pub rows_end : (start : ℕ) (lots : List Stored) → every (lot_good most) lots ≡ true → end_of start (rows_of start lots) ≡ start + length (bodies_of lots)
  unfolding rows_of end_of bodies_of flat_map
  rows_end start [] e = sym (add-zero start)
  rows_end start (lot ∷ lots) e =
      let first = every_cons (lot_good most) lot lots e in
      ap (λ (n : ℕ). end_of (start + n) (rows_of (start + length lot.body) lots)) (told lot first.0).whole
      ∙ rows_end (start + length lot.body) lots first.1
      ∙ omega (arith, length-append lot.body (bodies_of lots))

  -- they stand in a table as they were made, and are the used ones
  pub rows_stand : (start : ℕ) (lots : List Stored) (k : ℕ) (rest : List ℕ) → every (lot_good most) lots ≡ true → start + length (bodies_of lots) < 4294967296 → rows_in (length lots + k) (flat_map bytes_of (rows_of start lots) ++ rest) ≡ rows_of start lots ++ rows_in k rest
  unfolding rows_of bodies_of flat_map
  rows_stand start [] k rest e h = rw zero-add
  rows_stand start (lot ∷ lots) k rest e h =
      let first = every_cons (lot_good most) lot lots e in
      let t = told lot first.0 in
      let size = length-append lot.body (bodies_of lots) in
      let row = row_of start lot in
      let later = flat_map bytes_of (rows_of (start + length lot.body) lots) in
      (λ i. rows_in (suc-add (length lots) k i) (append_assoc (bytes_of row) later rest i))
      ∙ rows_written row (length lots + k) (later ++ rest) (record { number = omega (arith, t.largest); start = omega arith; documents = omega (arith, t.whole) })
      ∙ ap (λ (l : List Row). row ∷ l) (rows_stand (start + length lot.body) lots k rest first.1 (omega arith))

  pub rows_used : (start : ℕ) (lots : List Stored) (rest : List Row) → every (lot_good most) lots ≡ true → used (rows_of start lots ++ rest) ≡ rows_of start lots ++ used rest
  unfolding rows_of
  rows_used start [] rest e = refl
  rows_used start (lot ∷ lots) rest e =
      let first = every_cons (lot_good most) lot lots e in
      let t = told lot first.0 in
      used_cons (row_of start lot) (rows_of (start + length lot.body) lots ++ rest) (λ (z : lot.number ≡ 0). absurd (omega (arith, t.least)))
      ∙ ap (λ (l : List Row). row_of start lot ∷ l) (rows_used (start + length lot.body) lots rest first.1)

  -- their bodies are read where the rows say
  pub lots_read : (slice : List ℕ) (start : ℕ) (lots : List Stored) (rest : List ℕ) → every (lot_good most) lots ≡ true → drop start slice ≡ bodies_of lots ++ rest → map (lot_at slice) (rows_of start lots) ≡ lots
  unfolding rows_of bodies_of flat_map
  lots_read slice start [] rest e h = refl
  lots_read slice start (lot ∷ lots) rest e h =
      let first = every_cons (lot_good most) lot lots e in
      let size = (told lot first.0).whole in
      let here = h ∙ append_assoc lot.body (bodies_of lots) rest in
      let body = (λ i. take (size i) (here i)) ∙ take_at lot.body (bodies_of lots ++ rest) (length lot.body) refl in
      let behind = sym (drop-drop (length lot.body) start slice) ∙ ap (drop (length lot.body)) here ∙ drop_at lot.body (bodies_of lots ++ rest) (length lot.body) refl in
      λ i. record { number = lot.number; body = body i } ∷ lots_read slice (start + length lot.body) lots rest first.1 behind i

pub rows_numbers : (start : ℕ) (lots : List Stored) → numbers_of (rows_of start lots) ≡ lot_numbers lots
unfolding rows_of
rows_numbers start [] = refl
rows_numbers start (lot ∷ lots) = ap (λ (l : List ℕ). lot.number ∷ l) (rows_numbers (start + length lot.body) lots)

pub rows_count : (start : ℕ) (lots : List Stored) → length (rows_of start lots) ≡ length lots
unfolding rows_of
rows_count start [] = refl
rows_count start (lot ∷ lots) = ap suc (rows_count (start + length lot.body) lots)

pub table_count : (start : ℕ) (lots : List Stored) → length (flat_map bytes_of (rows_of start lots)) ≡ table_bytes (length lots)
table_count start lots = bytes_count (rows_of start lots) ∙ ap table_bytes (rows_count start lots)

-- rows of some lots and of others behind them
pub rows_append : (start : ℕ) (xs ys : List Stored) → rows_of start (xs ++ ys) ≡ rows_of start xs ++ rows_of (start + length (bodies_of xs)) ys
unfolding rows_of bodies_of flat_map
rows_append start [] ys = ap (λ (n : ℕ). rows_of n ys) (sym (add-zero start))
rows_append start (x ∷ xs) ys =
    let both-sizes : start + length x.body + length (bodies_of xs) ≡ start + length (x.body ++ bodies_of xs) = omega (arith, length-append x.body (bodies_of xs)) in
    ap (λ (l : List Row). row_of start x ∷ l) (rows_append (start + length x.body) xs ys)
    ∙ ap (λ (n : ℕ). row_of start x ∷ rows_of (start + length x.body) xs ++ rows_of n ys) both-sizes

-- bodies in order end no earlier than they start
pub end_behind : (start : ℕ) (rs : List Row) → start ≤ end_of start rs
unfolding end_of
end_behind start [] = omega arith
end_behind start (r ∷ rs) = omega (arith, end_behind (start + body_bytes r) rs)

-- lots that are read where rows in order say: their rows are these, and their bodies are the run from the first start to the last end
module _ (slice : List ℕ) where
  read_length : (start : ℕ) (r : Row) (rs : List Row) → r.start ≡ start → end_of (start + body_bytes r) rs ≤ length slice → length (part r.start (body_bytes r) slice) ≡ body_bytes r
  read_length start r rs e h = part_length r.start (body_bytes r) slice (omega (arith, end_behind (start + body_bytes r) rs))

  pub read_rows : (start : ℕ) (rs : List Row) → in_order start rs ≡ true → end_of start rs ≤ length slice → rows_of start (map (lot_at slice) rs) ≡ rs
  unfolding rows_of in_order end_of
  read_rows start [] e h = refl
  read_rows start (r ∷ rs) e h =
      let first = both (eqb r.start start) (in_order (start + body_bytes r) rs) e in
      let here = eqb-true r.start start first.0 in
      let there = sym here in
      let size = read_length start r rs here h in
      let count : count_in (part r.start (body_bytes r) slice) ≡ r.documents = omega arith in
      (λ i. record { number = r.number; start = there i; documents = count i } ∷ rows_of (start + size i) (map (lot_at slice) rs))
      ∙ ap (λ (l : List Row). r ∷ l) (read_rows (start + body_bytes r) rs first.1 h)

  pub read_bodies : (start : ℕ) (rs : List Row) → in_order start rs ≡ true → end_of start rs ≤ length slice → bodies_of (map (lot_at slice) rs) ≡ part start (end_of start rs - start) slice
  unfolding bodies_of flat_map in_order end_of
  read_bodies start [] e h = let none : 0 ≡ start - start = omega arith in ap (λ (n : ℕ). part start n slice) none
  read_bodies start (r ∷ rs) e h =
      let first = both (eqb r.start start) (in_order (start + body_bytes r) rs) e in
      let here = eqb-true r.start start first.0 in
      let end = end_of (start + body_bytes r) rs in
      let whole : body_bytes r + (end - (start + body_bytes r)) ≡ end - start = omega (arith, end_behind (start + body_bytes r) rs) in
      (λ i. part (here i) (body_bytes r) slice ++ read_bodies (start + body_bytes r) rs first.1 h i)
      ∙ sym (part_split start (body_bytes r) (end - (start + body_bytes r)) slice)
      ∙ ap (λ (n : ℕ). part start n slice) whole

  pub read_good : (most start : ℕ) (rs : List Row) → every (row_good most) rs ≡ true → in_order start rs ≡ true → end_of start rs ≤ length slice → every (lot_good most) (map (lot_at slice) rs) ≡ true
  unfolding every in_order end_of
  read_good most start [] g e h = refl
  read_good most start (r ∷ rs) g e h =
      let good = every_cons (row_good most) r rs g in
      let clauses = both (order_number r.number) (leb 1 r.documents && leb r.documents most) good.0 in
      let first = both (eqb r.start start) (in_order (start + body_bytes r) rs) e in
      let size = read_length start r rs (eqb-true r.start start first.0) h in
      let count : count_in (part r.start (body_bytes r) slice) ≡ r.documents = omega arith in
      let whole : length (part r.start (body_bytes r) slice) % document_bytes ≡ 0 = omega arith in
      rw (clauses.0, eq-eqb (length (part r.start (body_bytes r) slice) % document_bytes) 0 whole, count, clauses.1)
      (read_good most (start + body_bytes r) rs good.1 first.1 h)
