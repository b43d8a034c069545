-- Laws of what is moved down in place: a run of bytes, one row more.
use mathlib.Core.Path.{◌≡◌, refl, ap, sym, ◌∙◌}
use mathlib.Core.List.{List, [], ◌∷◌, ◌++◌, flat_map, append_assoc}
use Prim.Native.Nat.{ℕ, suc, ◌+◌, ◌-◌, ◌≤◌, ◌<◌}
use native.Mathlib.Omega.{arith}
use lib.ListN.{length, set, take, drop, replicate, length-append, length-drop}
use lib.Seq.{sets, paste, sets-eq, drop-set-lt}
use Rattle.packed.specs.Part.{part}
use Rattle.packed.specs.Pieces.{cut}
use Rattle.packed.proofs.Laws.Part.{part_length}
use Rattle.packed.proofs.Laws.Writing.{sets_append}
use Rattle.lot_file.specs.declared.row.Row.{Row}
use Rattle.lot_file.specs.Layout.{binary_bytes, bytes_of, row_bytes, table_bytes}
use Rattle.lot_file.specs.Good.{rows_in, body_bytes}
use Rattle.lot_file.specs.Reading.{no_row}
use Rattle.lot_file.specs.Inner.Moving.{row_at, restarted, table_closed, Closable, closed}
use Rattle.lot_file.proofs.Laws.Rows.{row_length, bytes_count, rows_next, rows_length}

-- a run copied down is a run written
pub moved_down : (d : List ℕ) (to from end : ℕ) → to ≤ from → from ≤ end → end ≤ length d → paste d to (drop from d) (end - from) ≡ sets d to (part from (end - from) d)
moved_down d to from end h l room =
    let run = part from (end - from) d in
    let size : length run ≡ end - from = part_length from (end - from) d (omega arith) in
    sym (sets-eq run d to (omega arith) ∙ ap (λ (n : ℕ). take to d ++ run ++ drop (to + n) d) size)

-- all bytes behind what was written are as they were
pub drop_behind : (vs d : List ℕ) (at k : ℕ) → at + length vs ≤ k → drop k (sets d at vs) ≡ drop k d
drop_behind [] d at k h = refl
drop_behind (v ∷ vs) d at k h = drop_behind vs (set d at v) (suc at) k (omega arith) ∙ drop-set-lt k d at v (omega arith)

-- a row moved down, with the rows behind it still to come
module _ (s : List ℕ) (i taken next : ℕ) where
  abbrev pub to_come : List ℕ
  to_come = flat_map bytes_of (restarted next (rows_in (taken - (i + 1)) (drop (table_bytes (i + 1)) s))) ++ replicate row_bytes 0

  abbrev pub moved_to : Row → Row
  moved_to r = record { number = r.number; start = next; documents = r.documents }

pub rows_down : (s s' : List ℕ) (r : Row) (i taken next : ℕ) → i + 1 < taken → table_bytes taken ≤ length s → r ≡ row_at (i + 1) s → s' ≡ sets s (table_bytes i) (bytes_of (moved_to s i taken next r)) → sets s' (table_bytes (i + 1)) (to_come s' (i + 1) taken (next + body_bytes r)) ≡ sets s (table_bytes i) (to_come s i taken next)
unfolding restarted flat_map
rows_down s s' r i taken next h room e w =
    let row = bytes_of (moved_to s i taken next r) in
    let size = row_length (moved_to s i taken next r) in
    let place : table_bytes (i + 1) ≡ table_bytes i + length row = omega arith in
    let same = ap (drop (table_bytes (i + 1 + 1))) w ∙ drop_behind row s (table_bytes i) (table_bytes (i + 1 + 1)) (omega arith) in
    let rest = rows_in (taken - (i + 1 + 1)) (drop (table_bytes (i + 1 + 1)) s) in
    let later = flat_map bytes_of (restarted (next + body_bytes r) rest) in
    (λ k. sets (w k) (place k) (flat_map bytes_of (restarted (next + body_bytes r) (rows_in (taken - (i + 1 + 1)) (same k))) ++ replicate row_bytes 0))
    ∙ sets_append row (later ++ replicate row_bytes 0) s (table_bytes i)
    ∙ ap (sets s (table_bytes i)) (sym (append_assoc row later (replicate row_bytes 0)))
    ∙ ap (λ (rs : List Row). sets s (table_bytes i) (flat_map bytes_of (restarted next rs) ++ replicate row_bytes 0))
    (ap (λ (x : Row). x ∷ rest) e ∙ sym (rows_next (i + 1) taken s h room))

-- the last row cleared
pub row_cleared : (s s' : List ℕ) (i taken next : ℕ) → taken ≤ i + 1 → s' ≡ sets s (table_bytes i) (bytes_of no_row) → s' ≡ sets s (table_bytes i) (to_come s i taken next)
unfolding restarted flat_map rows_in cut bytes_of binary_bytes
row_cleared s s' i taken next h w =
    let none : 0 ≡ taken - (i + 1) = omega arith in
    w ∙ ap (λ (n : ℕ). sets s (table_bytes i) (flat_map bytes_of (restarted next (rows_in n (drop (table_bytes (i + 1)) s))) ++ replicate row_bytes 0)) none

-- the table closed changes nothing behind the used rows
restarted_count : (start : ℕ) (rs : List Row) → length (restarted start rs) ≡ length rs
unfolding restarted
restarted_count start [] = refl
restarted_count start (r ∷ rs) = ap suc (restarted_count (start + body_bytes r) rs)

closed_behind : (s : List ℕ) (place taken start k : ℕ) → place < taken → table_bytes taken ≤ length s → table_bytes taken ≤ k → drop k (table_closed place taken start s) ≡ drop k s
unfolding table_closed
closed_behind s place taken start k h room far =
    let rs = rows_in (taken - (place + 1)) (drop (table_bytes (place + 1)) s) in
    let count = rows_length (taken - (place + 1)) (drop (table_bytes (place + 1)) s) (simp length-drop (omega arith)) in
    let run = flat_map bytes_of (restarted start rs) in
    let size : length (run ++ replicate row_bytes 0) ≡ table_bytes (taken - place) = omega (arith, length-append run (replicate row_bytes 0), bytes_count (restarted start rs), restarted_count start rs) in
    drop_behind (run ++ replicate row_bytes 0) s (table_bytes place) k (omega arith)

pub closing : (s e : List ℕ) (r : Row) (place taken end : ℕ) → Closable place taken end s → r ≡ row_at place s → e ≡ table_closed place taken r.start s → sets e r.start (part (r.start + body_bytes r) (end - (r.start + body_bytes r)) e) ≡ closed place taken end s
unfolding closed
closing s e r place taken end c row w =
    let start = ap (λ (x : Row). x.start) row in
    let room : table_bytes taken ≤ length s = omega (arith, c.table, c.body, c.room) in
    let far : table_bytes taken ≤ r.start + body_bytes r = omega (arith, c.table) in
    let size = end - (r.start + body_bytes r) in
    let bodies = ap (λ (l : List ℕ). take size (drop (r.start + body_bytes r) l)) w ∙ ap (take size) (closed_behind s place taken r.start (r.start + body_bytes r) c.inside room far) in
    (λ i. sets (w i) r.start (bodies i))
    ∙ ap (λ (x : Row). sets (table_closed place taken x.start s) x.start (part (x.start + body_bytes x) (end - (x.start + body_bytes x)) s)) row
