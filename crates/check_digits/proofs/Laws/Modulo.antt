-- Numbers modulo m: summands and factors that may be cancelled. A factor may where it has an inverse, and that is all that is asked of 10
-- modulo 7 and of a weight modulo 11.
use mathlib.Core.Path.{◌≡◌, ap, sym, ◌∙◌}
use mathlib.Core.Logic.{◌↔◌}
use Prim.Native.Nat.{ℕ, zero, suc, ◌+◌, ◌*◌, ◌^◌, ◌/◌, ◌%◌}
use native.Mathlib.Nat.{pow-zero, pow-suc, one-mul, mod-add-div, mod-add-mod, add-mul-mod_self_left}
use native.Mathlib.Omega.{arith}

module _ (k : ℕ) where
  abbrev m : ℕ
  m = suc k

  -- of two sums that are equal: where one summand leaves the same, the other does
  summands : (a b x y : ℕ) → a + x ≡ b + y → a % m ≡ b % m → x % m ≡ y % m
  summands a b x y e h =
      sym (add-mul-mod_self_left x m a)
      ∙ ap (λ (n : ℕ). n % m) {x = x + m * a} {y = b + (y + k * a)} (omega arith)
      ∙ sym (mod-add-mod b m (y + k * a))
      ∙ ap (λ (r : ℕ). (r + (y + k * a)) % m) (sym h)
      ∙ mod-add-mod a m (y + k * a)
      ∙ ap (λ (n : ℕ). n % m) {x = a + (y + k * a)} {y = y + m * a} (omega arith)
      ∙ add-mul-mod_self_left y m a

  -- a factor may be reduced first
  reduced : (a w : ℕ) → a % m * w % m ≡ a * w % m
  reduced a w =
      sym (add-mul-mod_self_left (a % m * w) m (a / m * w))
      ∙ ap (λ (n : ℕ). n % m) {x = a % m * w + m * (a / m * w)} {y = a * w} (omega (arith, ap (λ (n : ℕ). n * w) (mod-add-div a m)))

  multiplied : (a b w : ℕ) → a % m ≡ b % m → a * w % m ≡ b * w % m
  multiplied a b w h = sym (reduced a w) ∙ ap (λ (r : ℕ). r * w % m) h ∙ reduced b w

  module _ (w i : ℕ) (inverse : w * i % m ≡ 1 % m) where
    -- times a factor and its inverse
    back : (a : ℕ) → a * w * i % m ≡ a % m
    back a =
        ap (λ (n : ℕ). n % m) {x = a * w * i} {y = w * i * a} (omega arith)
        ∙ multiplied (w * i) 1 a inverse
        ∙ ap (λ (n : ℕ). n % m) (one-mul a)

    divided : (a b : ℕ) → a * w % m ≡ b * w % m → a % m ≡ b % m
    divided a b h = sym (back a) ∙ multiplied (a * w) (b * w) i h ∙ back b

    -- a sum in which a digit with this weight becomes another: the sum leaves the same exactly when the two digits do
    pub same_exactly : (before after old new : ℕ) → after + old * w ≡ before + new * w → (before % m ≡ after % m) ↔ (old % m ≡ new % m)
    same_exactly before after old new e = (
      λ h. divided old new (summands after before (old * w) (new * w) e (sym h)),
      λ h. sym (summands (old * w) (new * w) after before (omega arith) (multiplied old new w h)),
    )

    -- powers of a factor have those of its inverse
    pub power : (p : ℕ) → w ^ p * i ^ p % m ≡ 1 % m
    power zero = rw (pow-zero w, pow-zero i)
    power (suc p) =
        ap (λ (n : ℕ). n % m) {x = w ^ suc p * i ^ suc p} {y = w ^ p * i ^ p * (w * i)} (rw (pow-suc w p, pow-suc i p) (omega arith))
        ∙ multiplied (w ^ p * i ^ p) 1 (w * i) (power p)
        ∙ ap (λ (n : ℕ). n % m) (one-mul (w * i))
        ∙ inverse
