-- A slice of which two runs are written anew, and no other byte, is a file laid over the slice: how adding and taking out come to the file of the
-- new lots.
use mathlib.Core.Path.{◌≡◌, refl, ap, sym, ◌∙◌}
use mathlib.Core.List.{List, [], ◌∷◌, ◌++◌, flat_map, append_assoc, append-nil}
use Prim.Native.Nat.{ℕ, suc, ◌+◌, ◌-◌, ◌≤◌, ◌<◌}
use native.Mathlib.Omega.{arith}
use lib.ListN.{length, drop, replicate, length-append, length-replicate, replicate-append-replicate}
use lib.Seq.{sets, sets-eq, take_at, drop_at, drop-append-add}
use Rattle.packed.proofs.Laws.FlatMap.{flat_append}
use Rattle.lot_file.specs.Layout.{Stored, row_bytes, table_bytes, bytes_of, row_of, rows_of, table_of, bodies_of, file_of, over}
use Rattle.lot_file.specs.Adding.{with_lot}
use Rattle.lot_file.proofs.Laws.Rows.{row_length}
use Rattle.lot_file.proofs.Laws.Lots.{table_count, rows_append}

-- a run written behind another
sets_at : (p t q : List ℕ) (at : ℕ) → at ≡ length p → length q ≤ length t → sets (p ++ t) at q ≡ p ++ (q ++ drop (length q) t)
sets_at p t q at e h =
    let fits : length p + length q ≤ length (p ++ t) = omega (arith, length-append p t) in
    ap (λ (n : ℕ). sets (p ++ t) n q) e
    ∙ sets-eq q (p ++ t) (length p) fits
    ∙ (λ i. take_at p t (length p) refl i ++ q ++ drop-append-add p t (length q) i)
    ∙ append_assoc p q (drop (length q) t)

pub rewritten : (s p t₁ m t₂ q₁ q₂ file : List ℕ) (at₁ at₂ : ℕ) → s ≡ p ++ (t₁ ++ (m ++ t₂)) → file ≡ p ++ (q₁ ++ (m ++ q₂)) → length q₁ ≡ length t₁ → length q₂ ≤ length t₂ → at₁ ≡ length p → at₂ ≡ length p + length t₁ + length m → sets (sets s at₁ q₁) at₂ q₂ ≡ over file s
rewritten s p t₁ m t₂ q₁ q₂ file at₁ at₂ es ef h₁ h₂ e₁ e₂ =
    let left = p ++ (q₁ ++ m) in
    let size₁ = length-append t₁ (m ++ t₂) in
    let size : at₂ ≡ length left = omega (arith, length-append p (q₁ ++ m), length-append q₁ m) in
    let whole : length file ≡ length p + (length t₁ + (length m + length q₂)) = ap length ef ∙ omega (arith, length-append p (q₁ ++ (m ++ q₂)), length-append q₁ (m ++ q₂), length-append m q₂) in
    let first =
    ap (λ (l : List ℕ). sets l at₁ q₁) es
    ∙ sets_at p (t₁ ++ (m ++ t₂)) q₁ at₁ e₁ (omega arith)
    ∙ ap (λ (l : List ℕ). p ++ (q₁ ++ l)) (drop_at t₁ (m ++ t₂) (length q₁) (sym h₁))
    ∙ ap (λ (l : List ℕ). p ++ l) (sym (append_assoc q₁ m t₂))
    ∙ sym (append_assoc p (q₁ ++ m) t₂) in
    let second =
    sets_at left t₂ q₂ at₂ size h₂
    ∙ sym (append_assoc left q₂ (drop (length q₂) t₂))
    ∙ ap (λ (l : List ℕ). l ++ drop (length q₂) t₂) (append_assoc p (q₁ ++ m) q₂ ∙ ap (λ (l : List ℕ). p ++ l) (append_assoc q₁ m q₂) ∙ sym ef) in
    let behind =
    ap (λ (n : ℕ). drop n s) whole
    ∙ ap (drop (length p + (length t₁ + (length m + length q₂)))) es
    ∙ drop-append-add p (t₁ ++ (m ++ t₂)) (length t₁ + (length m + length q₂))
    ∙ drop-append-add t₁ (m ++ t₂) (length m + length q₂)
    ∙ drop-append-add m t₂ (length q₂) in
    ap (λ (l : List ℕ). sets l at₂ q₂) first ∙ second ∙ ap (λ (l : List ℕ). file ++ l) (sym behind)

-- where a body starts behind those of some lots
abbrev pub start_after : (rows : ℕ) → List Stored → ℕ
start_after rows lots = table_bytes rows + length (bodies_of lots)

abbrev zeros : ℕ → List ℕ
zeros n = replicate n 0

-- a lot more: its row in place of a row of zeros, and its body in front of what lies behind
module _ (rows : ℕ) (lots : List Stored) (number : ℕ) (tray rest : List ℕ) (few : length lots < rows) where
  abbrev start : ℕ
  start = start_after rows lots

  abbrev new : Stored
  new = record { number = number; body = tray }

  abbrev table : List ℕ
  table = flat_map bytes_of (rows_of (table_bytes rows) lots)

  abbrev unused : List ℕ
  unused = zeros (table_bytes (rows - (length lots + 1)))

  count : length (with_lot lots number tray) ≡ length lots + 1
  count = length-append lots (new ∷ [])

  before : file_of rows lots ++ rest ≡ table ++ (zeros row_bytes ++ (unused ++ bodies_of lots ++ rest))
  unfolding file_of table_of
  before =
      let more : table_bytes (rows - length lots) ≡ row_bytes + table_bytes (rows - (length lots + 1)) = omega arith in
      ap (λ (l : List ℕ). table ++ l ++ bodies_of lots ++ rest) (ap zeros more ∙ sym (replicate-append-replicate {A = ℕ} row_bytes (table_bytes (rows - (length lots + 1))) 0))
      ∙ simp append_assoc refl

  after : file_of rows (with_lot lots number tray) ≡ table ++ (bytes_of (row_of start new) ++ (unused ++ bodies_of lots ++ tray))
  unfolding file_of table_of rows_of bodies_of flat_map
  after =
      let made = ap (flat_map bytes_of) (rows_append (table_bytes rows) lots (new ∷ [])) ∙ flat_append bytes_of (rows_of (table_bytes rows) lots) (row_of start new ∷ []) in
      let bodies = flat_append (λ (lot : Stored). lot.body) lots (new ∷ []) in
      (λ i. made i ++ zeros (table_bytes (rows - count i)) ++ bodies i)
      ∙ simp (append_assoc, append-nil) refl

  pub added_file : length tray ≤ length rest → sets (sets (file_of rows lots ++ rest) (table_bytes (length lots)) (bytes_of (row_of start new))) start tray ≡ over (file_of rows (with_lot lots number tray)) (file_of rows lots ++ rest)
  added_file h =
      let place = table_count (table_bytes rows) lots in
      let size : start ≡ length table + length (zeros row_bytes) + length (unused ++ bodies_of lots) = omega (arith, length-append unused (bodies_of lots), length-replicate {A = ℕ} (table_bytes (rows - (length lots + 1))) 0) in
      rewritten (file_of rows lots ++ rest) table (zeros row_bytes) (unused ++ bodies_of lots) rest (bytes_of (row_of start new)) tray
      (file_of rows (with_lot lots number tray)) (table_bytes (length lots)) start before after (row_length (row_of start new)) h (sym place) size

-- a lot less: the rows behind its own, and one of zeros, in place of it and them; and the bodies behind its own in place of it
module _ (rows : ℕ) (xs : List Stored) (x : Stored) (ys : List Stored) (rest : List ℕ) (few : length (xs ++ x ∷ ys) ≤ rows) where
  abbrev first : ℕ
  first = start_after rows xs

  abbrev kept : List ℕ
  kept = flat_map bytes_of (rows_of (table_bytes rows) xs)

  abbrev behind : List ℕ
  behind = flat_map bytes_of (rows_of (first + length x.body) ys)

  abbrev lowered : List ℕ
  lowered = flat_map bytes_of (rows_of first ys)

  abbrev still : List ℕ
  still = zeros (table_bytes (rows - (length xs + suc (length ys))))

  all_count : length (xs ++ x ∷ ys) ≡ length xs + suc (length ys)
  all_count = length-append xs (x ∷ ys)

  with_it : file_of rows (xs ++ x ∷ ys) ++ rest ≡ kept ++ (bytes_of (row_of first x) ++ behind ++ (still ++ bodies_of xs ++ (x.body ++ bodies_of ys ++ rest)))
  unfolding file_of table_of rows_of bodies_of flat_map
  with_it =
      let made = ap (flat_map bytes_of) (rows_append (table_bytes rows) xs (x ∷ ys)) ∙ flat_append bytes_of (rows_of (table_bytes rows) xs) (rows_of first (x ∷ ys)) in
      let bodies = flat_append (λ (lot : Stored). lot.body) xs (x ∷ ys) in
      (λ i. made i ++ zeros (table_bytes (rows - all_count i)) ++ bodies i ++ rest)
      ∙ simp append_assoc refl

  without_it : file_of rows (xs ++ ys) ≡ kept ++ (lowered ++ zeros row_bytes ++ (still ++ bodies_of xs ++ bodies_of ys))
  unfolding file_of table_of bodies_of flat_map
  without_it =
      let made = ap (flat_map bytes_of) (rows_append (table_bytes rows) xs ys) ∙ flat_append bytes_of (rows_of (table_bytes rows) xs) (rows_of first ys) in
      let bodies = flat_append (λ (lot : Stored). lot.body) xs ys in
      let more : table_bytes (rows - length (xs ++ ys)) ≡ row_bytes + table_bytes (rows - (length xs + suc (length ys))) = omega (arith, all_count, length-append xs ys) in
      let split = ap zeros more ∙ sym (replicate-append-replicate {A = ℕ} row_bytes (table_bytes (rows - (length xs + suc (length ys)))) 0) in
      (λ i. made i ++ split i ++ bodies i)
      ∙ simp append_assoc refl

  pub taken_file : sets (sets (file_of rows (xs ++ x ∷ ys) ++ rest) (table_bytes (length xs)) (lowered ++ zeros row_bytes)) first (bodies_of ys) ≡ over (file_of rows (xs ++ ys)) (file_of rows (xs ++ x ∷ ys) ++ rest)
  taken_file =
      let row = bytes_of (row_of first x) in
      let place = table_count (table_bytes rows) xs in
      let wide = length-append row behind in
      let same : length (lowered ++ zeros row_bytes) ≡ length (row ++ behind) = omega (arith, wide, length-append lowered (zeros row_bytes), row_length (row_of first x), table_count first ys, table_count (first + length x.body) ys) in
      let room : length (bodies_of ys) ≤ length (x.body ++ bodies_of ys ++ rest) = omega (arith, length-append (x.body ++ bodies_of ys) rest, length-append x.body (bodies_of ys)) in
      let size : first ≡ length kept + length (row ++ behind) + length (still ++ bodies_of xs) = omega (arith, wide, all_count, row_length (row_of first x), table_count (first + length x.body) ys, length-append still (bodies_of xs), length-replicate {A = ℕ} (table_bytes (rows - (length xs + suc (length ys)))) 0) in
      rewritten (file_of rows (xs ++ x ∷ ys) ++ rest) kept (row ++ behind) (still ++ bodies_of xs) (x.body ++ bodies_of ys ++ rest) (lowered ++ zeros row_bytes) (bodies_of ys)
      (file_of rows (xs ++ ys)) (table_bytes (length xs)) first with_it without_it same room (sym place) size
