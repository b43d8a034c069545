-- Laws of rows: ten bytes each, read and written again; the first rows of a slice in two runs; and what the rows of a slice are as bytes.
use mathlib.Core.Path.{◌≡◌, refl, ap, sym, subst, ◌∙◌}
use mathlib.Core.Bool.{Bool, true, false, cond}
use mathlib.Core.List.{List, [], ◌∷◌, ◌++◌, flat_map}
use Prim.Native.Nat.{ℕ, zero, suc, ◌+◌, ◌-◌, ◌≤◌, ◌<◌}
use native.Mathlib.Nat.{zero-add, add-zero, suc-add}
use native.Mathlib.Omega.{arith}
use lib.Dec.{eqb}
use lib.ListN.{length, take, drop, get_or, length-append, length-drop}
use lib.Seq.{take-add, drop-drop, take_at, drop_at, get_or-drop}
use borrow.Author.Tests.{eq-eqb, ne_eqb}
use Rattle.std.specs.Simd.{first_chunks}
use Rattle.packed.specs.Part.{part}
use Rattle.packed.specs.Pieces.{cut}
use Rattle.packed.proofs.Laws.Part.{part_part, part_split}
use Rattle.lot_file.specs.declared.row.Row.{Row}
use Rattle.lot_file.specs.Layout.{binary, binary_bytes, bytes_of, row_bytes, table_bytes}
use Rattle.lot_file.specs.Good.{row_in, rows_in, used}
use Rattle.lot_file.specs.Inner.Moving.{row_at}
use Rattle.lot_file.proofs.Laws.Binary.{Bytes, two_read, four_read, two_written, four_written}

pub bytes_drop : (n : ℕ) (s : List ℕ) → Bytes s → Bytes (drop n s)
bytes_drop n s bytes i = rw (get_or-drop n s i 0) (bytes (n + i))

-- the numbers of a row fit its bytes
pub record Fits (r : Row) : Type 0 where
  pub number : r.number < 65536
  pub start : r.start < 4294967296
  pub documents : r.documents < 4294967296

pub row_length : (r : Row) → length (bytes_of r) ≡ row_bytes
unfolding bytes_of binary_bytes
row_length r = refl

pub bytes_count : (rs : List Row) → length (flat_map bytes_of rs) ≡ table_bytes (length rs)
unfolding flat_map
bytes_count [] = refl
bytes_count (r ∷ rs) = length-append (bytes_of r) (flat_map bytes_of rs) ∙ omega (arith, row_length r, bytes_count rs)

-- what is written is read again
pub row_read : (r : Row) → Fits r → row_in (bytes_of r) ≡ r
unfolding row_in bytes_of binary_bytes
row_read r f =
    λ i. record { number = two_read r.number f.number i; start = four_read r.start f.start i; documents = four_read r.documents f.documents i }

-- the row at a place, field by field
pub row_fields : (at : ℕ) (s : List ℕ) → row_in (part at row_bytes s) ≡ record { number = binary (part at 2 s); start = binary (part (at + 2) 4 s); documents = binary (part (at + 6) 4 s) }
unfolding row_in
row_fields at s =
    λ i. record {
      number = binary (first i);
      start = binary (part_part at row_bytes 2 4 s (omega arith) i);
      documents = binary (part_part at row_bytes 6 4 s (omega arith) i);
    }
  where
    first : part 0 2 (part at row_bytes s) ≡ part at 2 s
    first = part_part at row_bytes 0 2 s (omega arith) ∙ rw add-zero

-- what is read is written again
pub row_written : (at : ℕ) (s : List ℕ) → Bytes s → at + row_bytes ≤ length s → bytes_of (row_in (part at row_bytes s)) ≡ part at row_bytes s
unfolding bytes_of
row_written at s bytes h =
    ap bytes_of (row_fields at s)
    ∙ (λ i. two_written at s bytes (omega arith) i ++ four_written (at + 2) s bytes (omega arith) i ++ four_written (at + 6) s bytes (omega arith) i)
    ∙ sym (part_split at 6 4 s ∙ (λ i. part_split at 2 4 s i ++ part (at + 6) 4 s))

-- the first rows: none, one more in front, so many and more behind them
pub rows_cons : (n : ℕ) (s : List ℕ) → 0 < length s → rows_in (suc n) s ≡ row_in (take row_bytes s) ∷ rows_in n (drop row_bytes s)
unfolding rows_in cut
rows_cons n [] h = absurd (omega arith)
rows_cons n (x ∷ s) h = refl

-- a slice in chunks of ten bytes: the first of them, and the one at a place
pub chunks_cut : (n m : ℕ) (s : List ℕ) → n ≤ m → table_bytes n ≤ length s → take n (first_chunks row_bytes m s) ≡ cut row_bytes n s
unfolding cut
chunks_cut zero m s h l = refl
chunks_cut (suc n) zero s h l = absurd (omega arith)
chunks_cut (suc n) (suc m) [] h l = absurd (omega arith)
chunks_cut (suc n) (suc m) (x ∷ s) h l =
    ap (λ (r : List (List ℕ)). take row_bytes (x ∷ s) ∷ r) (chunks_cut n m (drop row_bytes (x ∷ s)) (omega arith) (simp length-drop (omega arith)))

pub chunk_at : (p m : ℕ) (s d : List ℕ) → p < m → get_or (first_chunks row_bytes m s) p d ≡ part (table_bytes p) row_bytes s
chunk_at p zero s d h = absurd (omega arith)
chunk_at zero (suc m) s d h = refl
chunk_at (suc p) (suc m) s d h =
    let wider : row_bytes + table_bytes p ≡ table_bytes (suc p) = omega arith in
    chunk_at p m (drop row_bytes s) d (omega arith) ∙ ap (take row_bytes) (drop-drop (table_bytes p) row_bytes s ∙ ap (λ (k : ℕ). drop k s) wider)

pub rows_split : (m n : ℕ) (s : List ℕ) → table_bytes (m + n) ≤ length s → rows_in (m + n) s ≡ rows_in m s ++ rows_in n (drop (table_bytes m) s)
unfolding rows_in cut
rows_split zero n s h = rw zero-add
rows_split (suc m) n s h =
    let some : 0 < length s = omega arith in
    let rest : table_bytes (m + n) ≤ length (drop row_bytes s) = simp length-drop (omega arith) in
    let wider : row_bytes + table_bytes m ≡ table_bytes (suc m) = omega arith in
    ap (λ (k : ℕ). rows_in k s) (suc-add m n)
    ∙ rows_cons (m + n) s some
    ∙ ap (λ (l : List Row). row_in (take row_bytes s) ∷ l) (rows_split m n (drop row_bytes s) rest)
    ∙ ap (λ (l : List ℕ). row_in (take row_bytes s) ∷ rows_in m (drop row_bytes s) ++ rows_in n l) (drop-drop (table_bytes m) row_bytes s)
    ∙ ap (λ (l : List Row). l ++ rows_in n (drop (row_bytes + table_bytes m) s)) (sym (rows_cons m s some))
    ∙ ap (λ (k : ℕ). rows_in (suc m) s ++ rows_in n (drop k s)) wider

pub rows_next : (i n : ℕ) (s : List ℕ) → i < n → table_bytes n ≤ length s → rows_in (n - i) (drop (table_bytes i) s) ≡ row_at i s ∷ rows_in (n - (i + 1)) (drop (table_bytes (i + 1)) s)
rows_next i n s h room =
    let more : n - i ≡ suc (n - (i + 1)) = omega arith in
    let wider : table_bytes i + row_bytes ≡ table_bytes (i + 1) = omega arith in
    ap (λ (k : ℕ). rows_in k (drop (table_bytes i) s)) more
    ∙ rows_cons (n - (i + 1)) (drop (table_bytes i) s) (simp length-drop (omega arith))
    ∙ ap (λ (l : List ℕ). row_at i s ∷ rows_in (n - (i + 1)) l) (drop-drop row_bytes (table_bytes i) s ∙ ap (λ (k : ℕ). drop k s) wider)

pub rows_length : (n : ℕ) (s : List ℕ) → table_bytes n ≤ length s → length (rows_in n s) ≡ n
unfolding rows_in cut
rows_length zero s h = refl
rows_length (suc n) s h =
    ap length (rows_cons n s (omega arith)) ∙ ap suc (rows_length n (drop row_bytes s) (simp length-drop (omega arith)))

-- the rows of a slice of bytes are its bytes
pub rows_bytes : (n : ℕ) (s : List ℕ) → Bytes s → table_bytes n ≤ length s → flat_map bytes_of (rows_in n s) ≡ take (table_bytes n) s
unfolding rows_in cut flat_map
rows_bytes zero s bytes h = refl
rows_bytes (suc n) s bytes h =
    let wider : row_bytes + table_bytes n ≡ table_bytes (suc n) = omega arith in
    ap (flat_map bytes_of) (rows_cons n s (omega arith))
    ∙ (λ i. row_written 0 s bytes (omega arith) i ++ rows_bytes n (drop row_bytes s) (bytes_drop row_bytes s bytes) (simp length-drop (omega arith)) i)
    ∙ sym (take-add row_bytes (table_bytes n) s)
    ∙ ap (λ (k : ℕ). take k s) wider

-- one that was written, and more behind it
pub rows_written : (r : Row) (n : ℕ) (rest : List ℕ) → Fits r → rows_in (suc n) (bytes_of r ++ rest) ≡ r ∷ rows_in n rest
rows_written r n rest f =
    let wide = row_length r in
    rows_cons n (bytes_of r ++ rest) (simp length-append (omega arith))
    ∙ (λ i. row_in (take_at (bytes_of r) rest row_bytes wide i) ∷ rows_in n (drop_at (bytes_of r) rest row_bytes wide i))
    ∙ ap (λ (x : Row). x ∷ rows_in n rest) (row_read r f)

-- the used rows: those in front that have a number, up to the first that has none
pub used_cons : (r : Row) (rs : List Row) → (r.number ≡ 0 → ⊥) → used (r ∷ rs) ≡ r ∷ used rs
unfolding used
used_cons r rs some = rw (ne_eqb r.number 0 some)

pub used_stop : (r : Row) (rs : List Row) → r.number ≡ 0 → used (r ∷ rs) ≡ []
unfolding used
used_stop r rs none = rw (eq-eqb r.number 0 none)

pub used_few : (rs : List Row) → length (used rs) ≤ length rs
unfolding used
used_few [] = omega arith
used_few (r ∷ rs) = go (eqb r.number 0) (used_few rs)
  where
    go : (t : Bool) → length (used rs) ≤ length rs → length (cond t [] (r ∷ used rs)) ≤ suc (length rs)
    go true few = omega arith
    go false few = omega arith

-- they are the first so many rows of the slice
first_more : (s : List ℕ) (rest : List Row) → 0 < length s → rest ≡ rows_in (length rest) (drop row_bytes s) → (t : Bool) → cond t [] (row_in (take row_bytes s) ∷ rest) ≡ rows_in (length (cond t [] (row_in (take row_bytes s) ∷ rest))) s
unfolding rows_in cut
first_more s rest some e true = refl
first_more s rest some e false = ap (λ (l : List Row). row_in (take row_bytes s) ∷ l) e ∙ sym (rows_cons (length rest) s some)

pub used_first : (n : ℕ) (s : List ℕ) → table_bytes n ≤ length s → used (rows_in n s) ≡ rows_in (length (used (rows_in n s))) s
unfolding rows_in cut used
used_first zero s h = refl
used_first (suc n) s h =
    let some : 0 < length s = omega arith in
    let rest = used (rows_in n (drop row_bytes s)) in
    subst (λ (l : List Row). used l ≡ rows_in (length (used l)) s) (sym (rows_cons n s some))
    (first_more s rest some (used_first n (drop row_bytes s) (simp length-drop (omega arith))) (eqb (row_in (take row_bytes s)).number 0))
