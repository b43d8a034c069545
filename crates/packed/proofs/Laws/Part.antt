-- Laws of a run of a list: its length, a reading through it, a run cut in two, and a run within a run.
use mathlib.Core.Path.{◌≡◌, ap, sym, ◌∙◌}
use mathlib.Core.List.{List, [], ◌∷◌, ◌++◌}
use Prim.Native.Nat.{ℕ, zero, suc, ◌+◌, ◌-◌, ◌≤◌, ◌<◌}
use native.Mathlib.Nat.{sub-zero, zero-sub, suc-sub-suc}
use native.Mathlib.Numerals.{add-one}
use native.Mathlib.Omega.{arith}
use lib.ListN.{length, take, drop, get_or, length-take, length-drop}
use lib.Seq.{take_all, drop-cons, take-add, take-take, drop-drop, take-nil, drop-nil}
use Rattle.packed.specs.Part.{part}

pub part_length : (at n : ℕ) (s : List ℕ) → at + n ≤ length s → length (part at n s) ≡ n
part_length at n s h = simp (length-take, length-drop) (omega arith)

-- what a reading from `at` to `e` has left at i: at first all of it, at last nothing, and between one element and the rest
pub part_all : (at n : ℕ) (s : List ℕ) → part at (at + n - at) s ≡ part at n s
part_all at n s = let all : at + n - at ≡ n = omega arith in rw all

pub part_none : (i e : ℕ) (s : List ℕ) → e ≤ i → part i (e - i) s ≡ []
part_none i e s h = let none : e - i ≡ 0 = omega arith in rw none

pub part_step : (i e : ℕ) (s : List ℕ) → i < e → e ≤ length s → part i (e - i) s ≡ get_or s i 0 ∷ part (i + 1) (e - (i + 1)) s
part_step i e s h l =
    let more : e - i ≡ suc (e - (i + 1)) = omega arith in
    let inside : i < length s = omega arith in
    rw (more, drop-cons s i 0, add-one)

-- a run to the end is all behind its start
pub part_tail : (at : ℕ) (s : List ℕ) → part at (length s - at) s ≡ drop at s
part_tail at s = take_all (length s - at) (drop at s) (simp length-drop (omega arith))

pub part_split : (at m n : ℕ) (s : List ℕ) → part at (m + n) s ≡ part at m s ++ part (at + m) n s
part_split at m n s = take-add m n (drop at s) ∙ ap (λ (r : List ℕ). take m (drop at s) ++ take n r) (drop-drop m at s)

drop_take : (i n : ℕ) (l : List ℕ) → drop i (take n l) ≡ take (n - i) (drop i l)
drop_take zero n l = rw sub-zero
drop_take (suc i) zero l = rw (zero-sub, drop-nil (suc i))
drop_take (suc i) (suc n) [] = sym (take-nil (suc n - suc i))
drop_take (suc i) (suc n) (x ∷ l) = rw suc-sub-suc (drop_take i n l)

-- a run within a run is a run of the whole
pub part_part : (at n i m : ℕ) (s : List ℕ) → i + m ≤ n → part i m (part at n s) ≡ part (at + i) m s
part_part at n i m s h =
    ap (take m) (drop_take i n (drop at s)) ∙ take-take m (n - i) (drop i (drop at s)) (omega arith) ∙ ap (take m) (drop-drop i at s)
