-- 02, card 5: a number by its digits. Places count from the units up, and the units have place 0.
use Rattle.std.specs.Prelude.{ℕ, ◌+◌, ◌-◌, ◌*◌, ◌^◌, ◌/◌, ◌%◌, ◌<◌, ◌≡◌}

-- the digit at a place; 0 where a number has none
unfoldable pub digit_at : (place n : ℕ) → ℕ
digit_at place n = n / 10 ^ place % 10

-- the number with another digit at a place: what the old one is worth there is taken away, and what the new one is worth added
unfoldable pub with_digit : (place digit n : ℕ) → ℕ
with_digit place digit n = n - digit_at place n * 10 ^ place + digit * 10 ^ place

-- claimed, and proved in proofs/Laws/Digits: it has the digit there, and every other digit as it was; a number of at most so many digits, changed
-- at one of them, has no more; and a number that has the same digits at all other places is this one
pub record OneDigitChanged : Type 0 where
  pub there : (place digit n : ℕ) → digit < 10 → digit_at place (with_digit place digit n) ≡ digit
  pub elsewhere : (place digit n other : ℕ) → digit < 10 → (other ≡ place → ⊥) → digit_at other (with_digit place digit n) ≡ digit_at other n
  pub within : (digits place digit n : ℕ) → digit < 10 → place < digits → n < 10 ^ digits → with_digit place digit n < 10 ^ digits
  pub alone : (place n m : ℕ) → ((other : ℕ) → (other ≡ place → ⊥) → digit_at other m ≡ digit_at other n) → m ≡ with_digit place (digit_at place m) n
