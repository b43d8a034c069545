-- Laws of decimal text: the fewest digits that hold a value are its decimal text.
use mathlib.Core.Path.{◌≡◌, ap, sym, ◌∙◌}
use mathlib.Core.Bool.{Bool, cond}
use mathlib.Core.List.{[], ◌∷◌, ◌++◌}
use Prim.Native.Nat.{ℕ, zero, suc, ◌+◌, ◌*◌, ◌/◌, ◌%◌, ◌^◌, ◌≤◌, ◌<◌}
use native.Mathlib.Nat.{pow-succ'}
use native.Mathlib.Numerals.{unary_clauses}
use native.Mathlib.Omega.{arith}
use borrow.Author.Tests.{lt-ltb, le-ltb}
use Rattle.io.specs.Digits.{last_digits, IsDigitCount, hex_digit_ascii as based_glyph}
use Rattle.decimal.specs.Decimal.{glyph, digits_up_to, decimal}

-- ten to the power of a number is more than that number
above : (n : ℕ) → n < 10 ^ n
above zero = omega arith
above (suc n) = omega (arith, above n, pow-succ' 10 n)

-- a last digit is the same in the kit's text of any base
same_glyph : (v : ℕ) → glyph (v % 10) ≡ based_glyph (v % 10)
same_glyph v = sym (ap (λ (t : Bool). cond t (48 + v % 10) (87 + v % 10)) (lt-ltb (v % 10) 10 (omega arith)))

-- a value of two digits or more fills all but the last
tenth : (k v : ℕ) → IsDigitCount 10 1 v (suc (suc k)) → 10 ^ k * 10 ≤ v
tenth k v f = simp unary_clauses at (f.2 (omega arith))

fewest : (k most v : ℕ) → k ≤ most → IsDigitCount 10 1 v k → digits_up_to most v ≡ last_digits 10 k v
unfolding digits_up_to
fewest zero most v h f = absurd (omega arith)
fewest (suc k) zero v h f = absurd (omega arith)
fewest (suc zero) (suc most) v h f = λ i. cond (lt-ltb v 10 (omega (arith, f.1)) i) [] (digits_up_to most (v / 10)) ++ same_glyph v i ∷ []
fewest (suc (suc k)) (suc most) v h f =
    let low = tenth k v f in
    let high : v < 10 ^ k * 10 * 10 = simp unary_clauses at f.1 in
    let before : IsDigitCount 10 1 (v / 10) (suc k) = (omega arith, simp unary_clauses (omega (arith, high)), λ (m : 1 < suc k). simp unary_clauses (omega (arith, low))) in
    λ i. (ap (λ (t : Bool). cond t [] (digits_up_to most (v / 10))) (le-ltb v 10 (omega (arith, low, above k))) ∙ fewest (suc k) most (v / 10) (omega arith) before) i ++ same_glyph v i ∷ []

-- so the fewest digits of a value are its decimal text
pub decimal_fewest : (k v : ℕ) → IsDigitCount 10 1 v k → last_digits 10 k v ≡ decimal v
unfolding decimal
decimal_fewest zero v f = absurd (omega arith)
decimal_fewest (suc zero) v f = sym (fewest 1 (suc v) v (omega arith) f)
decimal_fewest (suc (suc k)) v f = sym (fewest (suc (suc k)) (suc v) v (omega (arith, above k, tenth k v f)) f)
