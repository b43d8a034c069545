-- Laws of the value of packed bytes: two runs end to end; one byte more, by which every reading goes; two bytes as one number; the bounds;
-- and that digits of one length and one value are the same bytes.
use mathlib.Core.Path.{◌≡◌, refl, ap, sym, ◌∙◌}
use mathlib.Core.Bool.{true}
use mathlib.Core.List.{List, [], ◌∷◌, ◌++◌}
use Prim.Native.Nat.{ℕ, zero, suc, ◌+◌, ◌-◌, ◌*◌, ◌^◌, ◌/◌, ◌%◌, ◌≤◌, ◌<◌}
use native.Mathlib.Nat.{zero-mul, zero-add, add-zero, mul-one, add-mul, mul_assoc, add_assoc, pow-suc, pow-succ', pow-le-pow_right}
use native.Mathlib.Numerals.{add-one}
use native.Mathlib.Omega.{arith}
use lib.Arith.{digits_lt, digits_div, digits_mod}
use lib.Dec.{lit<, lit≤}
use lib.Pow.{pow-add}
use lib.ListN.{length, length-append, get_or}
use lib.Seq.{drop-cons}
use Rattle.packed.specs.Part.{part}
use Rattle.packed.specs.Every.{every}
use Rattle.packed.specs.Digits.{is_digits, are_digits}
use Rattle.packed.specs.Number.{byte_value, number}
use Rattle.packed.proofs.Laws.Part.{part_length, part_split}
use Rattle.packed.proofs.Laws.Every.{every_cons}
use Rattle.packed.proofs.Laws.Digits.{halves}

-- the nominal of 01's example document, which fixes the order of halves and bytes
example : number (0x00 ∷ 0x00 ∷ 0x00 ∷ 0x01 ∷ 0x50 ∷ 0x00 ∷ []) ≡ 15000
unfolding number byte_value
example = refl

-- and the most that two bytes and four are worth, which no digits reach
most : (number (0xFF ∷ 0xFF ∷ []) ≡ 16665) × (number (0xFF ∷ 0xFF ∷ 0xFF ∷ 0xFF ∷ []) ≡ 166666665)
unfolding number byte_value
most = (refl, refl)

pub number_append : (xs ys : List ℕ) → number (xs ++ ys) ≡ number xs * 100 ^ length ys + number ys
unfolding number
number_append [] ys = rw (zero-mul, zero-add)
number_append (x ∷ xs) ys = simp (number_append xs ys, length-append xs ys, pow-add, add-mul, mul_assoc, add_assoc)

pub number_one : (at : ℕ) (s : List ℕ) → at < length s → number (part at 1 s) ≡ byte_value (get_or s at 0)
unfolding number
number_one at s h = rw (drop-cons s at 0) (add-zero (byte_value (get_or s at 0) * 1) ∙ mul-one (byte_value (get_or s at 0)))

-- the law behind every reading: with one byte more, a hundred times what was read and the byte
pub number_step : (at n : ℕ) (s : List ℕ) → at + n < length s → number (part at (n + 1) s) ≡ number (part at n s) * 100 + byte_value (get_or s (at + n) 0)
number_step at n s h =
    ap number (part_split at n 1 s)
    ∙ number_append (part at n s) (part (at + n) 1 s)
    ∙ rw (part_length (at + n) 1 s (omega arith), number_one (at + n) s h)

-- two bytes as one number: how many 16s, 256s and 4,096s it has; and that 6 less for each 16, 60 less for each 256 and 600 less for each
-- 4,096, all together, leave the value of the two bytes
module _ (x y : ℕ) (h : y < 256) where
  by_16 : (x * 256 + y) / 16 ≡ x * 16 + y / 16
  by_16 = omega arith

  by_256 : (x * 256 + y) / 256 ≡ x
  by_256 = omega arith

  by_4096 : (x * 256 + y) / 4096 ≡ x / 16
  by_4096 = omega arith

  pub two_bytes : x * 256 + y - (x * 256 + y) / 16 * 6 - (x * 256 + y) / 256 * 60 - (x * 256 + y) / 4096 * 600 ≡ byte_value x * 100 + byte_value y
  unfolding byte_value
  two_bytes = rw (by_16, by_256, by_4096) (omega arith)

-- a value is at most that of k bytes FF, each worth 165: 165 * (100 ^ k - 1) / 99, here without the division
abbrev pub Grown : (k v : ℕ) → Type 0
Grown k v = 3 * v + 5 ≤ 5 * 100 ^ k

byte_most : (b : ℕ) → b < 256 → byte_value b ≤ 165
unfolding byte_value
byte_most b h = omega arith

grown_step : (k v p : ℕ) → Grown k v → p ≤ 165 → Grown (k + 1) (v * 100 + p)
grown_step k v p g h = rw (add-one, pow-suc) (omega arith)

-- the value of any run of bytes has grown no more than that
pub number_grown : (at n : ℕ) (s : List ℕ) → ((i : ℕ) → get_or s i 0 < 256) → at + n ≤ length s → Grown n (number (part at n s))
unfolding number
number_grown at zero s bytes h = lit≤ tt
number_grown at (suc n) s bytes h =
    let b = get_or s (at + n) 0 in
    rw (← add-one n, number_step at n s (omega arith))
    (grown_step n (number (part at n s)) (byte_value b) (number_grown at n s bytes (omega arith)) (byte_most b (bytes (at + n))))

-- so nine bytes fit 64 bits: after eight the value is below 2 * 10 ^ 16, and the ninth makes it a hundred times that
pub grown_eight : (k v : ℕ) → k ≤ 8 → Grown k v → v ≤ 16666666666666665
grown_eight k v h g = omega (arith, pow-le-pow_right {n = 100} (lit< tt) h)

pub byte_below : (b : ℕ) → is_digits b ≡ true → byte_value b < 100
unfolding byte_value
byte_below b e = omega (arith, halves b e)

pub number_below : (bs : List ℕ) → are_digits bs ≡ true → number bs < 100 ^ length bs
unfolding number every
number_below [] e = lit< tt
number_below (b ∷ bs) e =
    rw pow-succ'
    (digits_lt (byte_below b (every_cons is_digits b bs e).0) (number_below bs (every_cons is_digits b bs e).1))

same_byte : (x y : ℕ) → is_digits x ≡ true → is_digits y ≡ true → byte_value x ≡ byte_value y → x ≡ y
unfolding byte_value
same_byte x y ex ey e = omega (arith, halves x ex, halves y ey)

-- two values of a pair and a rest agree in the pair and in the rest
same_parts : (p q r s w : ℕ) → r < w → s < w → p * w + r ≡ q * w + s → (p ≡ q) × (r ≡ s)
same_parts p q r s w hr hs e =
    (sym (digits_div p hr) ∙ ap (λ (n : ℕ). n / w) e ∙ digits_div q hs, sym (digits_mod p hr) ∙ ap (λ (n : ℕ). n % w) e ∙ digits_mod q hs)

-- digits of one length and one value are the same bytes
pub same_digits : (xs ys : List ℕ) → are_digits xs ≡ true → are_digits ys ≡ true → length xs ≡ length ys → number xs ≡ number ys → xs ≡ ys
unfolding number every
same_digits [] [] ex ey l e = refl
same_digits [] (y ∷ ys) ex ey l e = let z : ◌≡◌ {A = ℕ} 0 1 = cc in absurd (omega arith)
same_digits (x ∷ xs) [] ex ey l e = let z : ◌≡◌ {A = ℕ} 0 1 = cc in absurd (omega arith)
same_digits (x ∷ xs) (y ∷ ys) ex ey l e =
    let hx : are_digits xs ≡ true = (every_cons is_digits x xs ex).1 in
    let hy : are_digits ys ≡ true = (every_cons is_digits y ys ey).1 in
    let k : length xs ≡ length ys = omega arith in
    let both = same_parts (byte_value x) (byte_value y) (number xs) (number ys) (100 ^ length ys) (rw k at (number_below xs hx)) (number_below ys hy) (rw k at e) in
    let head : x ≡ y = same_byte x y (every_cons is_digits x xs ex).0 (every_cons is_digits y ys ey).0 both.0 in
    let tail : xs ≡ ys = same_digits xs ys hx hy k both.1 in
    cc
