-- Laws of the digits of a number: how a place leads to the one below it, and what a changed digit leaves as it was.
use mathlib.Core.Path.{◌≡◌, refl, ap, sym, ◌∙◌}
use mathlib.Core.Bool.{Bool, true, false}
use Prim.Native.Nat.{ℕ, zero, suc, ◌+◌, ◌*◌, ◌^◌, ◌/◌, ◌%◌, ◌≤◌, ◌<◌}
use native.Mathlib.Nat.{pow-suc, pow-succ', pow-le-pow_right, mul-le-mul_right, mod-le, div-div-eq-div-mul, div-mul-le_self}
use native.Mathlib.Numerals.{add-one}
use native.Mathlib.Omega.{arith}
use borrow.Author.Tests.{eqb-true, eqb-false}
use lib.Dec.{eqb, lit<}
use Rattle.check_digits.specs.Digits.{digit_at, with_digit, OneDigitChanged}

-- the digit at a place is that of a tenth at the place below
shifted : (place n : ℕ) → n / 10 ^ suc place ≡ n / 10 / 10 ^ place
shifted place n = rw pow-succ' (sym (div-div-eq-div-mul n 10 (10 ^ place)))

pub tenth_shifted : (place n : ℕ) → n / 10 ^ place / 10 ≡ n / 10 ^ (place + 1)
tenth_shifted place n = rw (add-one, pow-suc) (div-div-eq-div-mul n (10 ^ place) 10)

pub digit_shifted : (place n : ℕ) → digit_at (suc place) n ≡ digit_at place (n / 10)
unfolding digit_at
digit_shifted place n = ap (λ (q : ℕ). q % 10) (shifted place n)

pub digit_below : (place n : ℕ) → digit_at place n < 10
unfolding digit_at
digit_below place n = omega arith

-- a digit is worth no more than the number
worth : (place n : ℕ) → digit_at place n * 10 ^ place ≤ n
unfolding digit_at
worth place n = omega (arith, mul-le-mul_right (10 ^ place) (mod-le (n / 10 ^ place) 10), div-mul-le_self n (10 ^ place))

-- what is put in and what is taken out
pub exchanged : (place digit n : ℕ) → with_digit place digit n + digit_at place n * 10 ^ place ≡ n + digit * 10 ^ place
unfolding with_digit
exchanged place digit n = omega (arith, worth place n)

-- so a digit above the units is changed in the number's tenth
with_shifted : (place digit n : ℕ) → with_digit (suc place) digit n ≡ with_digit place digit (n / 10) * 10 + n % 10
with_shifted place digit n =
    let above = rw (digit_shifted place n, pow-suc 10 place) at (exchanged (suc place) digit n) in
    omega (arith, above, exchanged place digit (n / 10))

pub tenth : (place digit n : ℕ) → with_digit (suc place) digit n / 10 ≡ with_digit place digit (n / 10)
tenth place digit n = omega (arith, with_shifted place digit n)

-- the units are the end of that way
digit_units : (n : ℕ) → digit_at 0 n ≡ n % 10
unfolding digit_at
digit_units n = omega arith

with_units : (digit n : ℕ) → with_digit 0 digit n ≡ n / 10 * 10 + digit
with_units digit n = omega (arith, exchanged 0 digit n, digit_units n)

pub units_tenth : (digit n : ℕ) → digit < 10 → with_digit 0 digit n / 10 ≡ n / 10
units_tenth digit n h = omega (arith, with_units digit n)

there : (place digit n : ℕ) → digit < 10 → digit_at place (with_digit place digit n) ≡ digit
there zero digit n h = omega (arith, digit_units (with_digit 0 digit n), with_units digit n)
there (suc p) digit n h =
    digit_shifted p (with_digit (suc p) digit n)
    ∙ ap (digit_at p) (tenth p digit n)
    ∙ there p digit (n / 10) h

elsewhere : (place digit n other : ℕ) → digit < 10 → (other ≡ place → ⊥) → digit_at other (with_digit place digit n) ≡ digit_at other n
elsewhere zero digit n zero h apart = absurd (apart refl)
elsewhere zero digit n (suc q) h apart =
    digit_shifted q (with_digit 0 digit n)
    ∙ ap (digit_at q) (units_tenth digit n h)
    ∙ sym (digit_shifted q n)
elsewhere (suc p) digit n zero h apart =
    omega (arith, digit_units (with_digit (suc p) digit n), with_shifted p digit n, digit_units n)
elsewhere (suc p) digit n (suc q) h apart =
    digit_shifted q (with_digit (suc p) digit n)
    ∙ ap (digit_at q) (tenth p digit n)
    ∙ elsewhere p digit (n / 10) q h (λ e. apart (ap suc e))
    ∙ sym (digit_shifted q n)

within : (digits place digit n : ℕ) → digit < 10 → place < digits → n < 10 ^ digits → with_digit place digit n < 10 ^ digits
within zero place digit n h k l = absurd (omega arith)
within (suc d) zero digit n h k l = rw pow-suc (omega (arith, pow-suc 10 d, with_units digit n))
within (suc d) (suc p) digit n h k l =
    rw pow-suc (omega (arith, with_shifted p digit n, within d p digit (n / 10) h (omega arith) (omega (arith, pow-suc 10 d))))

-- numbers with the same digits are the same
below_power : (n : ℕ) → n < 10 ^ n
below_power zero = omega arith
below_power (suc n) = rw pow-suc (omega (arith, below_power n))

same_within : (digits m n : ℕ) → m < 10 ^ digits → n < 10 ^ digits → ((place : ℕ) → digit_at place m ≡ digit_at place n) → m ≡ n
same_within zero m n h k e = omega arith
same_within (suc d) m n h k e =
    omega (
      arith,
      digit_units m,
      digit_units n,
      e 0,
      same_within d (m / 10) (n / 10) (omega (arith, pow-suc 10 d)) (omega (arith, pow-suc 10 d)) (λ p. sym (digit_shifted p m) ∙ e (suc p) ∙ digit_shifted p n),
    )

same_number : (m n : ℕ) → ((place : ℕ) → digit_at place m ≡ digit_at place n) → m ≡ n
same_number m n e =
    same_within (m + n) m n
    (omega (arith, below_power m, pow-le-pow_right {n = 10} (lit< tt) {i = m} {j = m + n} (omega arith)))
    (omega (arith, below_power n, pow-le-pow_right {n = 10} (lit< tt) {i = n} {j = m + n} (omega arith)))
    e

alone : (place n m : ℕ) → ((other : ℕ) → (other ≡ place → ⊥) → digit_at other m ≡ digit_at other n) → m ≡ with_digit place (digit_at place m) n
alone place n m e = same_number m (with_digit place (digit_at place m) n) (λ other. go other (eqb other place) refl)
  where
    go : (other : ℕ) (t : Bool) → eqb other place ≡ t → digit_at other m ≡ digit_at other (with_digit place (digit_at place m) n)
    go other true at =
        rw (eqb-true other place at) (sym (there place (digit_at place m) n (digit_below place m)))
    go other false off =
        e other (eqb-false other place off)
        ∙ sym (elsewhere place (digit_at place m) n other (digit_below place m) (eqb-false other place off))

pub one_digit_changed : OneDigitChanged
one_digit_changed = record { there = there; elsewhere = elsewhere; within = within; alone = alone }
