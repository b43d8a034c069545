-- Laws of decimal numbers: the step of a reading, the bound, and what a reading comes to.
use mathlib.Core.Path.{◌≡◌, refl, ap, sym, ◌∙◌}
use mathlib.Core.Bool.{Bool, true, false, ◌&&◌, and-false}
use mathlib.Core.List.{List, [], ◌∷◌}
use Prim.Native.Nat.{ℕ, suc, ◌+◌, ◌*◌, ◌^◌, ◌≤◌, ◌<◌}
use native.Mathlib.Nat.{zero-mul, zero-add, add-zero, mul-one, add-mul, mul_assoc, add_assoc, pow-succ', one-le-pow, mul-le-mul_left}
use native.Mathlib.Numerals.{add-one}
use native.Mathlib.Omega.{arith}
use lib.Dec.{ltb, lit<}
use lib.ListN.{length, drop, get_or, drop_of_length-le}
use lib.Seq.{drop-cons}
use borrow.Author.Tests.{lt-ltb, le-ltb}
use Rattle.packed.specs.Every.{every}
use Rattle.std.specs.Prelude.{Some, None}
use Rattle.text.specs.Digit.{digit_value, is_decimal}
use Rattle.text.specs.Number.{decimal, are_decimal, is_sized, is_number, number_if}

-- the two ends of the range, and digits of either kind
example : decimal (49 ∷ 50 ∷ 48 ∷ []) ≡ 120
unfolding decimal digit_value
example = refl

-- a value v read so far, and the digits that are left
pub after : ℕ → List ℕ → ℕ
after v bs = v * 10 ^ length bs + decimal bs

pub after_none : (v : ℕ) → after v [] ≡ v
unfolding after decimal
after_none v = add-zero (v * 1) ∙ mul-one v

pub after_start : (bs : List ℕ) → after 0 bs ≡ decimal bs
unfolding after
after_start bs = rw (zero-mul, zero-add)

after_step : (v b : ℕ) (bs : List ℕ) → after (v * 10 + digit_value b) bs ≡ after v (b ∷ bs)
unfolding after decimal
after_step v b bs = simp (pow-succ', add-mul, mul_assoc, add_assoc)

pub after_on : (v d : ℕ) (w : List ℕ) (i : ℕ) → i < length w → d ≡ digit_value (get_or w i 0) → after (v * 10 + d) (drop (i + 1) w) ≡ after v (drop i w)
after_on v d w i h e =
    (λ t. after (v * 10 + e t) (drop (add-one i t) w)) ∙ after_step v (get_or w i 0) (drop (suc i) w) ∙ ap (after v) (sym (drop-cons w i 0 h))

pub after_end : (v : ℕ) (w : List ℕ) (i : ℕ) → length w ≤ i → after v (drop i w) ≡ v
after_end v w i h = ap (after v) (drop_of_length-le w {i = i} h) ∙ after_none v

pub after_least : (v : ℕ) (bs : List ℕ) → v ≤ after v bs
unfolding after
after_least v bs = omega (arith, mul-le-mul_left v (one-le-pow (length bs) 10 (lit< tt)))

-- what a reading comes to: no digits, a value that does not fit, and a number
module _ (w : List ℕ) where
  pub no_digits_lem : every is_decimal w ≡ false → None ≡ number_if (are_decimal w) (decimal w)
  no_digits_lem e = sym (ap (λ (b : Bool). number_if (b && ltb (decimal w) (2 ^ 64)) (decimal w)) e)

  pub too_large : 2 ^ 64 ≤ decimal w → None ≡ number_if (are_decimal w) (decimal w)
  too_large h = sym (ap (λ (b : Bool). number_if b (decimal w)) (ap (λ (b : Bool). every is_decimal w && b) (le-ltb (decimal w) (2 ^ 64) h) ∙ and-false (every is_decimal w)))

  pub a_number : (v : ℕ) → every is_decimal w ≡ true → v ≡ decimal w → v < 2 ^ 64 → Some v ≡ number_if (are_decimal w) (decimal w)
  a_number v e same h =
      (λ t. Some (same t))
      ∙ sym (λ t. number_if (e t && lt-ltb (decimal w) (2 ^ 64) (rw same at h) t) (decimal w))

-- by the count of digits
pub sized : (w : List ℕ) → is_sized (length w) ≡ true → are_decimal w ≡ is_number w
unfolding is_number
sized w e = sym (ap (λ (b : Bool). b && are_decimal w) e)

pub unsized : (w : List ℕ) → is_sized (length w) ≡ false → is_number w ≡ false
unfolding is_number
unsized w e = ap (λ (b : Bool). b && are_decimal w) e

-- what a reading tells
pub told_none : (b : Bool) (v : ℕ) → None ≡ number_if b v → b ≡ false
told_none true v e = absurd (let z : None ≡ Some v = e in cc)
told_none false v e = refl

pub told_some : (b : Bool) (v n : ℕ) → Some n ≡ number_if b v → (b ≡ true) × (n ≡ v)
told_some true v n e = (refl, let z : Some n ≡ Some v = e in cc)
told_some false v n e = absurd (let z : Some n ≡ None = e in cc)
