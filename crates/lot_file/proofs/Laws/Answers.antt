-- What each call answers and leaves, outcome by outcome, from what its functions have found.
use mathlib.Core.Path.{◌≡◌, refl, ap, sym, ◌∙◌}
use mathlib.Core.Bool.{Bool, true, false, ◌&&◌, ◌||◌, cond}
use mathlib.Core.List.{List, [], ◌∷◌, ◌++◌, map}
use Prim.Native.Nat.{ℕ, suc, ◌+◌, ◌-◌, ◌*◌, ◌≤◌, ◌<◌}
use native.Mathlib.Omega.{arith}
use lib.Dec.{eqb, leb, ltb}
use lib.ListN.{length, take, drop, get_or, length-map}
use borrow.Author.Tests.{ltb-true, eqb-true}
use Rattle.std.specs.Prelude.{Option, Some, None, is_some}
use Rattle.packed.specs.Part.{part}
use Rattle.packed.proofs.Laws.Told.{both}
use Rattle.packed.specs.Pieces.{cut}
use Rattle.codes.specs.Chain.{◌when◌, ◌orelse◌}
use Rattle.codes.specs.Numbered.{numbered}
use Rattle.document.specs.Limits.{document_bytes}
use Rattle.lot_file.specs.declared.row.Row.{Row}
use Rattle.lot_file.specs.declared.contents.Contents.{Contents}
use Rattle.lot_file.specs.declared.answers.LotRefusal.{LotRefusal}
use Rattle.lot_file.specs.declared.answers.FindShown.{FindShown}
use Rattle.lot_file.specs.declared.asked.Lot.{Lot}
use Rattle.lot_file.specs.Layout.{Stored, row_bytes, table_bytes, file_of, over}
use Rattle.lot_file.specs.Answers.{refusal_number}
use Rattle.lot_file.specs.Good.{row_in, rows_in, used_rows, numbers_of, body_bytes, order_number, in_order, end_of, good}
use Rattle.lot_file.specs.Reading.{lot_at, lots_in, body_in, present, no_row, row_for, check_refusal, absent_refusal, found, body_found}
use Rattle.lot_file.specs.Adding.{tray_good, no_room, add_refusal, with_lot, added}
use Rattle.lot_file.specs.TakingOut.{without, taken_out}
use Rattle.lot_file.specs.Inner.Search.{place_of, place_found}
use Rattle.lot_file.specs.Inner.Contents.{most_rows, AskedIn, PlacedIn}
use Rattle.lot_file.specs.Inner.Moving.{appended, row_at, Closable, closed}
use Rattle.lot_file.proofs.Laws.Binary.{Bytes}
use Rattle.lot_file.proofs.Laws.Lots.{lot_numbers, end_behind}
use Rattle.lot_file.proofs.Laws.Held.{Sound, sound, used_rows_lem, used_are}
use Rattle.lot_file.proofs.Laws.Search.{place_member, some_found, found_place}
use Rattle.lot_file.proofs.Laws.Found.{numbered_place, without_place, row_inside, row_there, added_there, closed_there}

-- no refusal has the number 0
pub refusal_told : (r : LotRefusal) → eqb (refusal_number r) 0 ≡ false
refusal_told LotRefusal.Repeated = refl
refusal_told LotRefusal.Wrong = refl
refusal_told LotRefusal.NoRoom = refl
refusal_told LotRefusal.Absent = refl

pub checked_wrong : (rows most : ℕ) (s : List ℕ) → good rows most s ≡ false → check_refusal rows most s ≡ 25
unfolding check_refusal ◌when◌
checked_wrong rows most s e = rw e

pub checked_good : (rows most : ℕ) (s : List ℕ) → good rows most s ≡ true → check_refusal rows most s ≡ 0
unfolding check_refusal ◌when◌
checked_good rows most s e = rw e

-- the chain that finding and taking out share
module _ (rows most : ℕ) (s : List ℕ) (n : ℕ) where
  pub refused_25 : good rows most s && order_number n ≡ false → absent_refusal rows most s n ≡ 25
  unfolding absent_refusal ◌when◌ ◌orelse◌
  refused_25 e = rw e

  pub refused_46 : good rows most s && order_number n ≡ true → present rows s n ≡ false → absent_refusal rows most s n ≡ 46
  unfolding absent_refusal ◌when◌ ◌orelse◌
  refused_46 e f = rw (e, f)

  pub unrefused : good rows most s && order_number n ≡ true → present rows s n ≡ true → absent_refusal rows most s n ≡ 0
  unfolding absent_refusal ◌when◌ ◌orelse◌
  unrefused e f = rw (e, f)

  -- what is found, and what is left in the slice
  abbrev shown_by : (code : ℕ) (ok : Bool) → FindShown
  shown_by code ok = record { code = code; start = (cond ok (row_for (used_rows rows s) n) no_row).start; documents = (cond ok (row_for (used_rows rows s) n) no_row).documents }

  pub found_refused : (k : ℕ) → eqb k 0 ≡ false → absent_refusal rows most s n ≡ k → record { code = k; start = 0; documents = 0 } ≡ found rows most s n
  unfolding found
  found_refused k f e = ap (shown_by k) (sym f) ∙ ap (λ (j : ℕ). shown_by j (eqb j 0)) (sym e)

  pub found_row_lem : (r : Row) → r ≡ row_for (used_rows rows s) n → absent_refusal rows most s n ≡ 0 → record { code = 0; start = r.start; documents = r.documents } ≡ found rows most s n
  unfolding found
  found_row_lem r row e = ap (λ (x : Row). record { code = 0; start = x.start; documents = x.documents }) row ∙ ap (λ (j : ℕ). shown_by j (eqb j 0)) (sym e)

  abbrev left_by : (ok : Bool) → List ℕ
  left_by ok = cond ok (over (file_of rows (without n (lots_in rows s))) s) s

  pub nothing_taken : (k : ℕ) → eqb k 0 ≡ false → absent_refusal rows most s n ≡ k → s ≡ taken_out rows most s n
  unfolding taken_out
  nothing_taken k f e = ap left_by (sym f) ∙ ap (λ (j : ℕ). left_by (eqb j 0)) (sym e)

  pub one_taken : absent_refusal rows most s n ≡ 0 → over (file_of rows (without n (lots_in rows s))) s ≡ taken_out rows most s n
  unfolding taken_out
  one_taken e = ap (λ (j : ℕ). left_by (eqb j 0)) (sym e)

-- what is known once a slice and a number have passed
pub record Asked (rows most : ℕ) (s : List ℕ) (c : Contents) (n : ℕ) : Type 0 where
  pub passed : good rows most s && order_number n ≡ true
  pub clauses : Sound rows most s
  pub counted : c.used ≡ length (used_rows rows s)
  pub ended : c.end ≡ end_of (table_bytes rows) (used_rows rows s)
  pub few : c.used ≤ rows
  pub table : table_bytes c.used ≤ length s

pub asked : (rows most : ℕ) (s : List ℕ) (c : Contents) (n : ℕ) → AskedIn rows most s n c → Asked rows most s c n
asked rows most s c n h =
    let clauses = sound rows most s (both (good rows most s) (order_number n) h.passed).0 in
    let few = used_rows_lem rows s clauses.table in
    record {
      passed = h.passed;
      clauses = clauses;
      counted = h.told.used;
      ended = h.told.end;
      few = omega (arith, h.told.used);
      table = omega (arith, h.told.used, clauses.table);
    }

pub lots_numbers : (s : List ℕ) (rs : List Row) → lot_numbers (map (lot_at s) rs) ≡ numbers_of rs
lots_numbers s [] = refl
lots_numbers s (r ∷ rs) = ap (λ (l : List ℕ). r.number ∷ l) (lots_numbers s rs)

-- what the search among the used rows has found
module _ (rows most : ℕ) (s : List ℕ) (c : Contents) (n : ℕ) (a : Asked rows most s c n) (ts : List (List ℕ)) (found : Option ℕ) (cut_lem : ts ≡ cut row_bytes c.used s) (e : found ≡ place_found n (numbers_of (map row_in ts))) where
  abbrev ns : List ℕ
  ns = numbers_of (used_rows rows s)

  found_is : found ≡ place_found n ns
  unfolding rows_in
  found_is =
      e
      ∙ ap (λ (l : List (List ℕ)). place_found n (numbers_of (map row_in l))) cut_lem
      ∙ ap (λ (k : ℕ). place_found n (numbers_of (rows_in k s))) a.counted
      ∙ ap (λ (l : List Row). place_found n (numbers_of l)) (sym (used_are rows s a.clauses.table))

  pub is_there : is_some found ≡ present rows s n
  is_there = ap is_some found_is ∙ some_found n ns

  pub answer_46 : found ≡ None → absent_refusal rows most s n ≡ 46
  answer_46 none = refused_46 rows most s n a.passed (sym is_there ∙ ap is_some none)

  pub answer_0 : (place : ℕ) → found ≡ Some place → absent_refusal rows most s n ≡ 0
  answer_0 place some = unrefused rows most s n a.passed (sym is_there ∙ ap is_some some)

  pub place_is : (place : ℕ) → found ≡ Some place → place ≡ place_of n ns
  place_is place some = found_place n ns place (sym found_is ∙ some)

-- an unrefused call
pub good_unrefused : (rows most : ℕ) (s : List ℕ) (n : ℕ) → absent_refusal rows most s n ≡ 0 → good rows most s && order_number n ≡ true
good_unrefused rows most s n zero = go (good rows most s && order_number n) refl
  where
    go : (t : Bool) → good rows most s && order_number n ≡ t → t ≡ true
    go true e = refl
    go false e = absurd (omega (arith, refused_25 rows most s n e))

present_unrefused : (rows most : ℕ) (s : List ℕ) (n : ℕ) → absent_refusal rows most s n ≡ 0 → present rows s n ≡ true
present_unrefused rows most s n zero = go (present rows s n) refl
  where
    go : (t : Bool) → present rows s n ≡ t → t ≡ true
    go true e = refl
    go false e = absurd (omega (arith, refused_46 rows most s n (good_unrefused rows most s n zero) e))

-- the lot that it has found
module _ (rows most : ℕ) (s : List ℕ) (n : ℕ) (zero : absent_refusal rows most s n ≡ 0) (lot : Lot) (p : PlacedIn rows s n lot) where
  abbrev rs : List Row
  rs = used_rows rows s

  clauses : Sound rows most s
  clauses = sound rows most s (both (good rows most s) (order_number n) (good_unrefused rows most s n zero)).0

  inside : lot.place < length rs
  inside =
      let here = ltb-true (place_of n (numbers_of rs)) (length (numbers_of rs)) (place_member n (numbers_of rs) ∙ present_unrefused rows most s n zero) in
      omega (arith, p.place, length-map rs (λ (r : Row). r.number))

  there : get_or rs lot.place no_row ≡ row_at lot.place s
  there = row_there rows most s clauses lot.place inside

  pub row_room : table_bytes (suc lot.place) ≤ length s
  row_room = omega (arith, inside, used_rows_lem rows s clauses.table, clauses.table)

  pub row_found : row_at lot.place s ≡ row_for rs n
  unfolding row_for
  row_found = sym there ∙ ap (λ (k : ℕ). get_or rs k no_row) p.place ∙ sym (numbered_place (λ (r : Row). r.number) (λ (r : Row). r) no_row rs n)

  pub closable : rows ≤ most_rows → Closable lot.place lot.used lot.end s
  closable small =
      let lies = row_inside (table_bytes rows) rs lot.place clauses.ordered inside in
      let few = used_rows_lem rows s clauses.table in
      let start = ap (λ (r : Row). r.start) there in
      let body = ap (λ (r : Row). r.start + body_bytes r) there in
      record {
        inside = omega (arith, inside, p.used);
        few = omega (arith, p.used);
        table = omega (arith, p.used, lies.0, start);
        body = omega (arith, p.end, lies.1, body);
        room = omega (arith, p.end, clauses.room);
      }

  pub closed_taken : Bytes s → closed lot.place lot.used lot.end s ≡ taken_out rows most s n
  unfolding lots_in
  closed_taken bytes =
      let lots = lots_in rows s in
      let same = p.place ∙ ap (place_of n) (sym (lots_numbers s rs)) in
      (λ i. closed lot.place (p.used i) (p.end i) s)
      ∙ closed_there rows most s clauses lot.place bytes inside
      ∙ ap (λ (k : ℕ). over (file_of rows (take k lots ++ drop (suc k) lots)) s) same
      ∙ ap (λ (l : List Stored). over (file_of rows l) s) (sym (without_place n lots))
      ∙ one_taken rows most s n zero

-- the body that is handed out: as long as it says, and inside the slice
body_row : (s : List ℕ) (rs : List Row) (n : ℕ) → body_in (map (lot_at s) rs) n ≡ part (row_for rs n).start (body_bytes (row_for rs n)) s
unfolding body_in row_for numbered
body_row s [] n = refl
body_row s (r ∷ rs) n = go (eqb n r.number) (body_row s rs n)
  where
    go : (t : Bool) → body_in (map (lot_at s) rs) n ≡ part (row_for rs n).start (body_bytes (row_for rs n)) s → cond t (part r.start (body_bytes r) s) (body_in (map (lot_at s) rs) n) ≡ part (cond t r (row_for rs n)).start (body_bytes (cond t r (row_for rs n))) s
    go true e = refl
    go false e = e

-- a row that is found among rows in order lies inside
row_for_inside : (start : ℕ) (rs : List Row) (n : ℕ) → in_order start rs ≡ true → (row_for rs n).start + body_bytes (row_for rs n) ≤ end_of start rs
unfolding row_for numbered in_order end_of
row_for_inside start [] n e = omega arith
row_for_inside start (r ∷ rs) n e =
    let first = both (eqb r.start start) (in_order (start + body_bytes r) rs) e in
    go (eqb n r.number) (eqb-true r.start start first.0) (row_for_inside (start + body_bytes r) rs n first.1)
  where
    go : (t : Bool) → r.start ≡ start → (row_for rs n).start + body_bytes (row_for rs n) ≤ end_of (start + body_bytes r) rs → (cond t r (row_for rs n)).start + body_bytes (cond t r (row_for rs n)) ≤ end_of (start + body_bytes r) rs
    go true here later = omega (arith, end_behind (start + body_bytes r) rs)
    go false here later = later

found_inside : (rows most : ℕ) (s : List ℕ) (n : ℕ) → absent_refusal rows most s n ≡ 0 → (row_for (used_rows rows s) n).start + body_bytes (row_for (used_rows rows s) n) ≤ length s
found_inside rows most s n e =
    let clauses = sound rows most s (both (good rows most s) (order_number n) (good_unrefused rows most s n e)).0 in
    omega (arith, row_for_inside (table_bytes rows) (used_rows rows s) n clauses.ordered, clauses.room)

module _ (rows most : ℕ) (s : List ℕ) (n : ℕ) where
  pub body_handed : part (found rows most s n).start ((found rows most s n).documents * document_bytes) s ≡ body_found rows most s n
  unfolding found body_found lots_in
  body_handed = go (eqb (absent_refusal rows most s n) 0)
    where
      go : (t : Bool) → part (cond t (row_for (used_rows rows s) n) no_row).start (body_bytes (cond t (row_for (used_rows rows s) n) no_row)) s ≡ cond t (body_in (map (lot_at s) (used_rows rows s)) n) []
      go true = sym (body_row s (used_rows rows s) n)
      go false = refl

  -- a refused call hands out nothing; a row that is found lies inside
  pub body_inside : (found rows most s n).start + (found rows most s n).documents * document_bytes ≤ length s
  unfolding found
  body_inside = go (eqb (absent_refusal rows most s n) 0) refl
    where
      unrefused_row : eqb (absent_refusal rows most s n) 0 ≡ true → (row_for (used_rows rows s) n).start + body_bytes (row_for (used_rows rows s) n) ≤ length s
      unrefused_row e = found_inside rows most s n (eqb-true (absent_refusal rows most s n) 0 e)

      go : (t : Bool) → eqb (absent_refusal rows most s n) 0 ≡ t → (cond t (row_for (used_rows rows s) n) no_row).start + body_bytes (cond t (row_for (used_rows rows s) n) no_row) ≤ length s
      go true e = unrefused_row e
      go false e = omega arith

-- the chain of adding
module _ (rows most : ℕ) (s : List ℕ) (n : ℕ) (tray : List ℕ) where
  pub adding_25 : good rows most s && order_number n && tray_good most tray ≡ false → add_refusal rows most s n tray ≡ 25
  unfolding add_refusal ◌when◌ ◌orelse◌
  adding_25 e = rw e

  pub tray_fits : good rows most s && order_number n ≡ true → tray_good most tray ≡ true → good rows most s && order_number n && tray_good most tray ≡ true
  tray_fits e t = λ i. e i && t i

  module _ (e : good rows most s && order_number n && tray_good most tray ≡ true) where
    pub adding_4 : present rows s n ≡ true → add_refusal rows most s n tray ≡ 4
    unfolding add_refusal ◌when◌ ◌orelse◌
    adding_4 f = rw (e, f)

    pub adding_45 : present rows s n ≡ false → no_room rows s tray ≡ true → add_refusal rows most s n tray ≡ 45
    unfolding add_refusal ◌when◌ ◌orelse◌
    adding_45 f g = rw (e, f, g)

    pub adding_0 : present rows s n ≡ false → no_room rows s tray ≡ false → add_refusal rows most s n tray ≡ 0
    unfolding add_refusal ◌when◌ ◌orelse◌
    adding_0 f g = rw (e, f, g)

  abbrev after_adding : (ok : Bool) → List ℕ
  after_adding ok = cond ok (over (file_of rows (with_lot (lots_in rows s) n tray)) s) s

  pub nothing_added : (k : ℕ) → eqb k 0 ≡ false → add_refusal rows most s n tray ≡ k → s ≡ added rows most s n tray
  unfolding added
  nothing_added k f e = ap after_adding (sym f) ∙ ap (λ (j : ℕ). after_adding (eqb j 0)) (sym e)

  pub one_added : add_refusal rows most s n tray ≡ 0 → over (file_of rows (with_lot (lots_in rows s) n tray)) s ≡ added rows most s n tray
  unfolding added
  one_added e = ap (λ (j : ℕ). after_adding (eqb j 0)) (sym e)

-- what the code of adding has found, in the words of the chain
module _ (rows most : ℕ) (s tray : List ℕ) (c : Contents) (n : ℕ) (a : Asked rows most s c n) where
  pub room_is : leb rows c.used || ltb (length s - c.end) (length tray) ≡ no_room rows s tray
  room_is = λ i. leb rows (a.counted i) || ltb (length s - a.ended i) (length tray)

  -- a row that is free ends before the bodies do
  pub row_free : c.used < rows → table_bytes (suc c.used) ≤ c.end
  row_free free = omega (arith, a.ended, end_behind (table_bytes rows) (used_rows rows s))

  pub appended_added : Bytes s → add_refusal rows most s n tray ≡ 0 → c.used < rows → c.end + length tray ≤ length s → appended c.used c.end n tray s ≡ added rows most s n tray
  appended_added bytes zero free room =
      (λ i. appended (a.counted i) (a.ended i) n tray s)
      ∙ added_there rows most s a.clauses n tray bytes (omega (arith, a.counted)) (omega (arith, a.ended))
      ∙ one_added rows most s n tray zero
