-- What the digit test tells of a byte, and of a run: digits of a run are digits of its parts, and how a reading goes on.
use mathlib.Core.Path.{◌≡◌, ap, sym, ◌∙◌}
use mathlib.Core.Bool.{Bool, true, ◌&&◌, and-eq-true_iff}
use mathlib.Core.List.{List}
use Prim.Native.Nat.{ℕ, ◌+◌, ◌-◌, ◌≤◌, ◌<◌, ◌/◌, ◌%◌}
use native.Mathlib.Omega.{arith}
use lib.Dec.{ltb}
use lib.ListN.{length, get_or}
use borrow.Author.Tests.{ltb-true}
use Rattle.packed.specs.Part.{part}
use Rattle.packed.specs.Digits.{is_digits, are_digits}
use Rattle.packed.proofs.Laws.Part.{part_split, part_step}
use Rattle.packed.proofs.Laws.Every.{every_append, every_none, every_step}

pub halves : (b : ℕ) → is_digits b ≡ true → (b / 16 < 10) × (b % 16 < 10)
unfolding is_digits
halves b e =
    let both = (and-eq-true_iff (ltb (b / 16) 10) (ltb (b % 16) 10)).0 e in
    (ltb-true (b / 16) 10 both.0, ltb-true (b % 16) 10 both.1)

pub digits_split : (at m n : ℕ) (s : List ℕ) → are_digits (part at (m + n) s) ≡ are_digits (part at m s) && are_digits (part (at + m) n s)
digits_split at m n s = ap are_digits (part_split at m n s) ∙ every_append is_digits (part at m s) (part (at + m) n s)

-- a field within a run of digits is digits
pub digits_inside : (at n i m : ℕ) (s : List ℕ) → i + m ≤ n → are_digits (part at n s) ≡ true → are_digits (part (at + i) m s) ≡ true
digits_inside at n i m s h e =
    let cut : n ≡ i + (m + (n - (i + m))) = omega arith in
    let tail = ((and-eq-true_iff (are_digits (part at i s)) (are_digits (part (at + i) (m + (n - (i + m))) s))).0 (sym (digits_split at i (m + (n - (i + m))) s) ∙ ap (λ (k : ℕ). are_digits (part at k s)) (sym cut) ∙ e)).1 in
    ((and-eq-true_iff (are_digits (part (at + i) m s)) (are_digits (part (at + i + m) (n - (i + m)) s))).0 (sym (digits_split (at + i) m (n - (i + m)) s) ∙ tail)).0

-- a reading of n bytes from a place on that has found ok so far: one byte more, and none left
pub digits_step : (from n i : ℕ) (ok : Bool) (s : List ℕ) → i < n → from + n ≤ length s → ok && is_digits (get_or s (from + i) 0) && are_digits (part (from + (i + 1)) (n - (i + 1)) s) ≡ ok && are_digits (part (from + i) (n - i) s)
digits_step from n i ok s h l =
    let left : n - i ≡ from + n - (from + i) = omega arith in
    let less : n - (i + 1) ≡ from + n - (from + i + 1) = omega arith in
    let next : from + (i + 1) ≡ from + i + 1 = omega arith in
    rw (left, less, next)
    (every_step is_digits ok (get_or s (from + i) 0) _ ∙ ap (λ (bs : List ℕ). ok && are_digits bs) (sym (part_step (from + i) (from + n) s (omega arith) l)))

pub digits_none : (from n : ℕ) (ok : Bool) (s : List ℕ) → ok && are_digits (part from (n - n) s) ≡ ok
digits_none from n ok s = let none : n - n ≡ 0 = omega arith in rw none (every_none is_digits ok)
