-- Laws of a lot that is looked for in a good slice: its place among the used rows, its row, where its body lies, and the slice once it is gone.
use mathlib.Core.Path.{◌≡◌, refl, ap, sym, ◌∙◌}
use mathlib.Core.Bool.{Bool, true, false, cond}
use mathlib.Core.List.{List, [], ◌∷◌, ◌++◌, map, flat_map, append_assoc}
use Prim.Native.Nat.{ℕ, zero, suc, ◌+◌, ◌-◌, ◌≤◌, ◌<◌}
use native.Mathlib.Omega.{arith}
use lib.Dec.{eqb}
use lib.ListN.{length, take, drop, get_or, replicate, length-map, length-append, length-drop}
use lib.Seq.{sets, take_at, drop_at, get_or_at}
use borrow.Author.Tests.{eqb-true}
use Rattle.packed.specs.Part.{part}
use Rattle.packed.specs.Every.{every}
use Rattle.packed.proofs.Laws.Told.{both}
use Rattle.packed.proofs.Laws.Every.{every_append, every_cons}
use Rattle.codes.specs.Numbered.{numbered}
use Rattle.lot_file.specs.declared.row.Row.{Row}
use Rattle.lot_file.specs.Layout.{Stored, row_bytes, table_bytes, bytes_of, row_of, rows_of, bodies_of, file_of, over}
use Rattle.lot_file.specs.Good.{rows_in, used_rows, body_bytes, in_order, end_of}
use Rattle.lot_file.specs.Reading.{lot_at, lots_in, no_row}
use Rattle.lot_file.specs.Adding.{with_lot, lot_good}
use Rattle.lot_file.specs.TakingOut.{without}
use Rattle.lot_file.specs.Inner.Search.{place_of}
use Rattle.lot_file.specs.Inner.Moving.{appended, row_at, restarted, table_closed, closed}
use Rattle.lot_file.proofs.Laws.Binary.{Bytes}
use Rattle.lot_file.proofs.Laws.Rows.{rows_next, rows_split, rows_length}
use Rattle.lot_file.proofs.Laws.Lots.{told, rows_append, rows_count, rows_end, lot_numbers, end_behind, read_bodies}
use Rattle.lot_file.proofs.Laws.Held.{Sound, used_rows_lem, used_are, lots_count, held_rows, held_good, held}
use Rattle.lot_file.proofs.Laws.Rewritten.{start_after, added_file, taken_file}
use Rattle.lot_file.proofs.Laws.Contents.{order_append, end_append}

-- a thing found by its number is the one at the number's place
pub numbered_place : {A B : Type 0} (number : A → ℕ) (found : A → B) (none : A) (xs : List A) (n : ℕ) → numbered number found (found none) xs n ≡ found (get_or xs (place_of n (map number xs)) none)
unfolding numbered place_of
numbered_place number found none [] n = refl
numbered_place {A = A} {B = B} number found none (x ∷ xs) n = go (eqb n (number x)) (numbered_place number found none xs n)
  where
    go : (t : Bool) → numbered number found (found none) xs n ≡ found (get_or xs (place_of n (map number xs)) none) → cond t (found x) (numbered number found (found none) xs n) ≡ found (get_or (x ∷ xs) (cond t 0 (suc (place_of n (map number xs)))) none)
    go true e = refl
    go false e = e

-- the lots without the one of a number are those before its place and those behind
pub without_place : (number : ℕ) (lots : List Stored) → without number lots ≡ take (place_of number (lot_numbers lots)) lots ++ drop (suc (place_of number (lot_numbers lots))) lots
unfolding without place_of
without_place number [] = refl
without_place number (lot ∷ lots) = go (eqb number lot.number) (without_place number lots)
  where
    go : (t : Bool) → without number lots ≡ take (place_of number (lot_numbers lots)) lots ++ drop (suc (place_of number (lot_numbers lots))) lots → cond t lots (lot ∷ without number lots) ≡ take (cond t 0 (suc (place_of number (lot_numbers lots)))) (lot ∷ lots) ++ drop (suc (cond t 0 (suc (place_of number (lot_numbers lots))))) (lot ∷ lots)
    go true e = refl
    go false e = ap (λ (l : List Stored). lot ∷ l) e

-- the body of a row of some in order lies between their start and their end
pub row_inside : (start : ℕ) (rs : List Row) (p : ℕ) → in_order start rs ≡ true → p < length rs → (start ≤ (get_or rs p no_row).start) × ((get_or rs p no_row).start + body_bytes (get_or rs p no_row) ≤ end_of start rs)
unfolding in_order end_of
row_inside start [] p e h = absurd (omega arith)
row_inside start (r ∷ rs) zero e h =
    let here = eqb-true r.start start (both (eqb r.start start) (in_order (start + body_bytes r) rs) e).0 in
    (omega arith, omega (arith, end_behind (start + body_bytes r) rs))
row_inside start (r ∷ rs) (suc p) e h =
    let later = row_inside (start + body_bytes r) rs p (both (eqb r.start start) (in_order (start + body_bytes r) rs) e).1 (omega arith) in
    (omega (arith, later.0), later.1)

-- rows of lots that start anew
restarted_rows : (most start other : ℕ) (lots : List Stored) → every (lot_good most) lots ≡ true → restarted start (rows_of other lots) ≡ rows_of start lots
unfolding restarted rows_of
restarted_rows most start other [] e = refl
restarted_rows most start other (lot ∷ lots) e =
    let first = every_cons (lot_good most) lot lots e in
    let size = (told most lot first.0).whole in
    λ i. row_of start lot ∷ (ap (λ (n : ℕ). restarted (start + n) (rows_of (other + length lot.body) lots)) size ∙ restarted_rows most (start + length lot.body) (other + length lot.body) lots first.1) i

-- a place among the used rows of a good slice
module _ (rows most : ℕ) (s : List ℕ) (sound : Sound rows most s) where
  abbrev rs : List Row
  rs = used_rows rows s

  -- the rows before it, its own, and those behind
  pub rows_there : (p : ℕ) → p < length rs → rs ≡ rows_in p s ++ row_at p s ∷ rows_in (length rs - (p + 1)) (drop (table_bytes (p + 1)) s)
  rows_there p h =
      let few = used_rows_lem rows s sound.table in
      let u = length rs in
      let room : table_bytes u ≤ length s = omega (arith, sound.table) in
      let all : p + (u - p) ≡ u = omega arith in
      let long : table_bytes (p + (u - p)) ≤ length s = omega arith in
      used_are rows s sound.table
      ∙ ap (λ (n : ℕ). rows_in n s) (sym all)
      ∙ rows_split p (u - p) s long
      ∙ ap (λ (l : List Row). rows_in p s ++ l) (rows_next p u s h room)

  pub row_there : (p : ℕ) → p < length rs → get_or rs p no_row ≡ row_at p s
  row_there p h =
      let few = used_rows_lem rows s sound.table in
      let inside : table_bytes p ≤ length s = omega (arith, sound.table) in
      ap (λ (l : List Row). get_or l p no_row) (rows_there p h)
      ∙ get_or_at (rows_in p s) (row_at p s) (rows_in (length rs - (p + 1)) (drop (table_bytes (p + 1)) s)) no_row p (rows_length p s inside)

  -- the end of the last body, by the lots
  lots_end : end_of (table_bytes rows) rs ≡ table_bytes rows + length (bodies_of (lots_in rows s))
  lots_end = ap (end_of (table_bytes rows)) (sym (held_rows rows most s sound)) ∙ rows_end most (table_bytes rows) (lots_in rows s) (held_good rows most s sound)

  -- a lot written behind all others
  pub added_there : (number : ℕ) (tray : List ℕ) → Bytes s → length rs < rows → end_of (table_bytes rows) rs + length tray ≤ length s → appended (length rs) (end_of (table_bytes rows) rs) number tray s ≡ over (file_of rows (with_lot (lots_in rows s) number tray)) s
  unfolding appended
  added_there number tray bytes free room =
      let lots = lots_in rows s in
      let rest = drop (end_of (table_bytes rows) rs) s in
      let whole = held rows most s sound bytes in
      let count = lots_count rows most s sound in
      let left : length tray ≤ length rest = omega (arith, length-drop (end_of (table_bytes rows) rs) s) in
      let few : length lots < rows = omega arith in
      (λ i. sets (sets (whole i) (table_bytes (sym count i)) (bytes_of (row_of (lots_end i) (record { number = number; body = tray })))) (lots_end i) tray)
      ∙ added_file rows lots number tray rest few left
      ∙ ap (over (file_of rows (with_lot lots number tray))) (sym whole)

  -- a lot whose place is closed
  module _ (p : ℕ) (bytes : Bytes s) (h : p < length rs) where
    abbrev fore : List Row
    fore = rows_in p s

    abbrev aft : List Row
    aft = rows_in (length rs - (p + 1)) (drop (table_bytes (p + 1)) s)

    abbrev here : Row
    here = row_at p s

    cut_there : rs ≡ fore ++ here ∷ aft
    cut_there = rows_there p h

    fore_count : length fore ≡ p
    fore_count = rows_length p s (omega (arith, sound.table, used_rows_lem rows s sound.table))

    abbrev xs : List Stored
    xs = map (lot_at s) fore

    abbrev ys : List Stored
    ys = map (lot_at s) aft

    map_append : (ps qs : List Row) → map (lot_at s) (ps ++ qs) ≡ map (lot_at s) ps ++ map (lot_at s) qs
    map_append [] qs = refl
    map_append (r ∷ ps) qs = ap (λ (l : List Stored). lot_at s r ∷ l) (map_append ps qs)

    lots_there : lots_in rows s ≡ xs ++ lot_at s here ∷ ys
    unfolding lots_in
    lots_there = ap (map (lot_at s)) cut_there ∙ map_append fore (here ∷ aft)

    xs_count : length xs ≡ p
    xs_count = length-map fore (lot_at s) ∙ fore_count

    others : take p (lots_in rows s) ++ drop (suc p) (lots_in rows s) ≡ xs ++ ys
    others =
        let first : length (xs ++ lot_at s here ∷ []) ≡ suc p = length-append xs (lot_at s here ∷ []) ∙ omega (arith, xs_count) in
        (λ i. take p (lots_there i) ++ drop (suc p) ((lots_there ∙ sym (append_assoc xs (lot_at s here ∷ []) ys)) i))
        ∙ (λ i. take_at xs (lot_at s here ∷ ys) p xs_count i ++ drop_at (xs ++ lot_at s here ∷ []) ys (suc p) first i)

    abbrev start : ℕ
    start = start_after rows xs

    made : here ∷ aft ≡ row_of start (lot_at s here) ∷ rows_of (start + length (lot_at s here).body) ys
    unfolding rows_of
    made =
        sym (drop_at fore (here ∷ aft) p fore_count)
        ∙ ap (drop p) (sym cut_there ∙ sym (held_rows rows most s sound) ∙ ap (rows_of (table_bytes rows)) lots_there ∙ rows_append (table_bytes rows) xs (lot_at s here ∷ ys))
        ∙ drop_at (rows_of (table_bytes rows) xs) (rows_of start (lot_at s here ∷ ys)) p (rows_count (table_bytes rows) xs ∙ xs_count)

    -- its own row, and those behind it
    mine : here ≡ row_of start (lot_at s here)
    mine = ap (λ (l : List Row). get_or l 0 no_row) made

    theirs : aft ≡ rows_of (start + length (lot_at s here).body) ys
    theirs = ap (drop 1) made

    -- the bodies behind its own
    moved_bodies : part (here.start + body_bytes here) (end_of (table_bytes rows) rs - (here.start + body_bytes here)) s ≡ bodies_of ys
    unfolding in_order end_of
    moved_bodies =
        let ordered = (both (in_order (table_bytes rows) fore) (in_order (end_of (table_bytes rows) fore) (here ∷ aft)) (sym (order_append (table_bytes rows) fore (here ∷ aft)) ∙ ap (in_order (table_bytes rows)) (sym cut_there) ∙ sound.ordered)).1 in
        let split = both (eqb here.start (end_of (table_bytes rows) fore)) (in_order (end_of (table_bytes rows) fore + body_bytes here) aft) ordered in
        let begins = eqb-true here.start (end_of (table_bytes rows) fore) split.0 in
        let follow = ap (λ (n : ℕ). in_order (n + body_bytes here) aft) begins ∙ split.1 in
        let ends = ap (end_of (table_bytes rows)) cut_there ∙ end_append (table_bytes rows) fore (here ∷ aft) ∙ ap (λ (n : ℕ). end_of (n + body_bytes here) aft) (sym begins) in
        ap (λ (n : ℕ). part (here.start + body_bytes here) (n - (here.start + body_bytes here)) s) ends
        ∙ sym (read_bodies s (here.start + body_bytes here) aft follow (omega (arith, sound.room, ends)))

    pub closed_there : closed p (length rs) (end_of (table_bytes rows) rs) s ≡ over (file_of rows (take p (lots_in rows s) ++ drop (suc p) (lots_in rows s))) s
    unfolding closed table_closed
    closed_there =
        let x = lot_at s here in
        let rest = drop (end_of (table_bytes rows) rs) s in
        let whole = held rows most s sound bytes ∙ ap (λ (l : List Stored). file_of rows l ++ rest) lots_there in
        let all_good_lem = sym (every_append (lot_good most) xs (x ∷ ys)) ∙ ap (every (lot_good most)) (sym lots_there) ∙ held_good rows most s sound in
        let good = (every_cons (lot_good most) x ys (both (every (lot_good most) xs) (every (lot_good most) (x ∷ ys)) all_good_lem).1).1 in
        let begins = ap (λ (r : Row). r.start) mine in
        let few : length (xs ++ x ∷ ys) ≤ rows = omega (arith, ap length lots_there, lots_count rows most s sound, used_rows_lem rows s sound.table) in
        let moved = (λ i. restarted (begins i) (theirs i)) ∙ restarted_rows most start (start + length x.body) ys good in
        (λ i. sets (sets (whole i) (table_bytes (sym xs_count i)) (flat_map bytes_of (moved i) ++ replicate row_bytes 0)) (begins i) (moved_bodies i))
        ∙ taken_file rows xs x ys rest few
        ∙ (λ i. over (file_of rows (sym others i)) (sym whole i))
