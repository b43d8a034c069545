-- Laws of writing: a written value is digits of its width, both round trips, and the split of a width. Each follows from `same_digits`: there
-- is one run of digits of a length and a value.
use mathlib.Core.Path.{◌≡◌, refl, ap, sym, ◌∙◌}
use mathlib.Core.Logic.{◌≢◌}
use mathlib.Core.Bool.{true}
use mathlib.Core.List.{List, [], ◌∷◌, ◌++◌, append_assoc}
use Prim.Native.Nat.{ℕ, zero, suc, ◌+◌, ◌^◌, ◌/◌, ◌%◌, ◌≤◌, ◌<◌}
use native.Mathlib.Nat.{add-zero, add-suc, suc-add, mod-one, mod-eq_of_lt, pow-succ', one-le-pow, div-one}
use native.Mathlib.Omega.{arith}
use lib.Arith.{digits_div, digits_mod, mod-mul}
use lib.Dec.{lit<}
use lib.Pow.{pow-add}
use lib.ListN.{length, length-append, take, drop, set}
use lib.Seq.{sets, sets-eq, set_comm, take_at, drop_at, length-take-le}
use borrow.Author.Tests.{lt-ltb}
use Rattle.packed.specs.Part.{part}
use Rattle.packed.specs.Every.{every}
use Rattle.packed.specs.Digits.{is_digits, are_digits}
use Rattle.packed.specs.Number.{byte_value, number}
use Rattle.packed.specs.Writing.{packed_byte, packed_bytes}
use Rattle.packed.proofs.Laws.Part.{part_length}
use Rattle.packed.proofs.Laws.Every.{every_append}
use Rattle.packed.proofs.Laws.Number.{number_append, number_below, same_digits}

hundred_pos : (n : ℕ) → 0 < 100 ^ n
hundred_pos n = one-le-pow n 100 (lit< tt)

pub packed_length : (n v : ℕ) → length (packed_bytes n v) ≡ n
unfolding packed_bytes
packed_length zero v = refl
packed_length (suc n) v = ap suc (packed_length n v)

-- a written byte's halves are the value's last two digits
module _ (v : ℕ) where
  units : v % 10 < 16
  units = omega arith

  high_half : packed_byte v / 16 ≡ v / 10 % 10
  unfolding packed_byte
  high_half = digits_div (v / 10 % 10) units

  low_half : packed_byte v % 16 ≡ v % 10
  unfolding packed_byte
  low_half = digits_mod (v / 10 % 10) units

  packed_byte_digits : is_digits (packed_byte v) ≡ true
  unfolding is_digits
  packed_byte_digits = rw (high_half, low_half, lt-ltb (v / 10 % 10) 10 (omega arith), lt-ltb (v % 10) 10 (omega arith))

  pub packed_byte_value : byte_value (packed_byte v) ≡ v % 100
  unfolding byte_value
  packed_byte_value = rw (high_half, low_half) (sym (mod-mul v {m = 10} (lit< tt) (lit< tt)))

pub packed_digits : (n v : ℕ) → are_digits (packed_bytes n v) ≡ true
unfolding packed_bytes every
packed_digits zero v = refl
packed_digits (suc n) v = rw (packed_byte_digits, packed_digits n v)

-- a value written in n bytes keeps its last n pairs of digits
pub packed_value : (n v : ℕ) → number (packed_bytes n v) ≡ v % 100 ^ n
unfolding packed_bytes number
packed_value zero v = sym (mod-one v)
packed_value (suc n) v =
    rw (packed_byte_value, packed_length n v, packed_value n v, pow-succ')
    (sym (mod-mul v (lit< tt) (hundred_pos n)))

pub written_then_read : (n v : ℕ) → v < 100 ^ n → number (packed_bytes n v) ≡ v
written_then_read n v h = packed_value n v ∙ mod-eq_of_lt h

pub read_then_written : (bs : List ℕ) → are_digits bs ≡ true → packed_bytes (length bs) (number bs) ≡ bs
read_then_written bs e =
    same_digits (packed_bytes (length bs) (number bs)) bs (packed_digits (length bs) (number bs)) e (packed_length (length bs) (number bs))
    (written_then_read (length bs) (number bs) (number_below bs e))

pub packed_split : (m n v : ℕ) → packed_bytes (m + n) v ≡ packed_bytes m (v / 100 ^ n) ++ packed_bytes n v
packed_split m n v =
    same_digits (packed_bytes (m + n) v) (packed_bytes m (v / 100 ^ n) ++ packed_bytes n v) (packed_digits (m + n) v)
    (rw (every_append, packed_digits m (v / 100 ^ n), packed_digits n v))
    (rw (packed_length (m + n) v, length-append (packed_bytes m (v / 100 ^ n)) (packed_bytes n v), packed_length m (v / 100 ^ n), packed_length n v))
    (rw (packed_value (m + n) v, number_append, packed_value m (v / 100 ^ n), packed_value n v, packed_length n v, pow-add)
    (mod-mul v (hundred_pos m) (hundred_pos n)))

-- the last byte, written first: the rest of the value fills the bytes before it
pub packed_last : (n v : ℕ) → packed_bytes (n + 1) v ≡ packed_bytes n (v / 100) ++ packed_byte v ∷ []
unfolding packed_bytes
packed_last n v = packed_split n 1 v ∙ rw div-one

-- runs written one behind the other are one run
pub sets_append : (xs ys d : List ℕ) (at : ℕ) → sets (sets d at xs) (at + length xs) ys ≡ sets d at (xs ++ ys)
sets_append [] ys d at = ap (λ (k : ℕ). sets d k ys) (add-zero at)
sets_append (x ∷ xs) ys d at = rw (add-suc, ← suc-add) (sets_append xs ys (set d at x) (suc at))

pub sets_behind : (xs ys d e : List ℕ) (at k : ℕ) → e ≡ sets d at xs → at + length xs ≡ k → sets e k ys ≡ sets d at (xs ++ ys)
sets_behind xs ys d e at k w h = ap (λ (l : List ℕ). sets l k ys) w ∙ ap (λ (j : ℕ). sets (sets d at xs) j ys) (sym h) ∙ sets_append xs ys d at

-- what was written stands there
pub part_sets : (vs d : List ℕ) (at n : ℕ) → length vs ≡ n → at + n ≤ length d → part at n (sets d at vs) ≡ vs
part_sets vs d at n e h =
    let fits : at + length vs ≤ length d = omega arith in
    ap (part at n) (sets-eq vs d at fits ∙ append_assoc (take at d) vs (drop (at + length vs) d))
    ∙ ap (take n) (drop_at (take at d) (vs ++ drop (at + length vs) d) at (length-take-le at d (omega arith)))
    ∙ take_at vs (drop (at + length vs) d) n e

-- a store past a run may come before it
pub sets_last : (xs d : List ℕ) (at b : ℕ) → sets (set d (at + length xs) b) at xs ≡ sets d at (xs ++ b ∷ [])
sets_last [] d at b = ap (λ (k : ℕ). set d k b) (add-zero at)
sets_last (x ∷ xs) d at b =
    let apart : at + suc (length xs) ≢ at = omega arith in
    rw (set_comm d (at + suc (length xs)) at b x apart, add-suc, ← suc-add) (sets_last xs (set d at x) (suc at) b)

-- one byte of a writing from the last byte back: the byte after the k that are still to come
pub put_step : (d : List ℕ) (at k v : ℕ) → sets (set d (at + k) (packed_byte v)) at (packed_bytes k (v / 100)) ≡ sets d at (packed_bytes (k + 1) v)
put_step d at k v =
    let rest = packed_bytes k (v / 100) in
    ap (λ (j : ℕ). sets (set d (at + j) (packed_byte v)) at rest) (sym (packed_length k (v / 100)))
    ∙ sets_last rest d at (packed_byte v)
    ∙ ap (sets d at) (sym (packed_last k v))

-- the round trips at a place of a slice
pub put_then_read : (d : List ℕ) (at n v : ℕ) → at + n ≤ length d → v < 100 ^ n → number (part at n (sets d at (packed_bytes n v))) ≡ v
put_then_read d at n v h w = ap number (part_sets (packed_bytes n v) d at n (packed_length n v) h) ∙ written_then_read n v w

pub read_then_put : (d : List ℕ) (at n : ℕ) → at + n ≤ length d → are_digits (part at n d) ≡ true → packed_bytes n (number (part at n d)) ≡ part at n d
read_then_put d at n h e =
    ap (λ (m : ℕ). packed_bytes m (number (part at n d))) (sym (part_length at n d h)) ∙ read_then_written (part at n d) e
