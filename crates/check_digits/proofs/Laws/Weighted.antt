-- Laws of the weighted sum and its remainder: the sum step by step, what one changed digit does to it, and what a remainder is taken to.
use mathlib.Core.Path.{◌≡◌, refl, ap, sym, ◌∙◌}
use mathlib.Core.Bool.{Bool, true, false, cond}
use mathlib.Core.Logic.{◌↔◌, ◌⊎◌, inl, inr}
use mathlib.Core.List.{List, [], ◌∷◌}
use Prim.Native.Nat.{ℕ, zero, suc, ◌+◌, ◌-◌, ◌*◌, ◌^◌, ◌/◌, ◌%◌, ◌≤◌, ◌<◌}
use native.Mathlib.Nat.{mul-le-mul}
use native.Mathlib.Omega.{arith}
use borrow.Author.Tests.{leb-true, eqb-true, eqb-false}
use lib.Dec.{eqb, leb}
use lib.ListN.{length, drop, get_or}
use lib.Seq.{drop-cons}
use Rattle.packed.specs.Every.{every}
use Rattle.packed.proofs.Laws.Every.{every_cons}
use Rattle.check_digits.specs.Digits.{digit_at, with_digit}
use Rattle.check_digits.specs.Weighted.{weights, weighted_from, weighted_modulus, remainder, one_figure}
use Rattle.check_digits.proofs.Laws.Modulo.{same_exactly}
use Rattle.check_digits.proofs.Laws.Digits.{digit_shifted, digit_below, tenth, units_tenth, one_digit_changed}

-- from a place of the table on: the digit there times its weight, and the rest
pub weighted_step : (ws : List ℕ) (place n : ℕ) → place < length ws → weighted_from place (drop place ws) n ≡ digit_at place n * get_or ws place 0 + weighted_from (suc place) (drop (suc place) ws) n
unfolding weighted_from
weighted_step ws place n h = rw (drop-cons ws place 0)

pub weighted_end : (n : ℕ) → weighted_from 10 (drop 10 weights) n ≡ 0
unfolding weights weighted_from
weighted_end n = refl

-- the digits above the units are those of the number's tenth
weighted_shifted : (place : ℕ) (ws : List ℕ) (n : ℕ) → weighted_from (suc place) ws n ≡ weighted_from place ws (n / 10)
unfolding weighted_from
weighted_shifted place [] n = refl
weighted_shifted place (w ∷ ws) n = rw (digit_shifted place n, weighted_shifted (suc place) ws n)

-- one digit changed: the sum loses the old digit times its weight, and gains the new one
module _ (digit : ℕ) (h : digit < 10) where
  exchanged_sum : (place n : ℕ) (ws : List ℕ) → place < length ws → weighted_from 0 ws (with_digit place digit n) + digit_at place n * get_or ws place 0 ≡ weighted_from 0 ws n + digit * get_or ws place 0
  unfolding weighted_from
  exchanged_sum zero n [] l = absurd (omega arith)
  exchanged_sum (suc p) n [] l = absurd (omega arith)
  exchanged_sum zero n (w ∷ ws) l =
      let changed = with_digit 0 digit n in
      let rest : weighted_from 1 ws changed ≡ weighted_from 1 ws n = weighted_shifted 0 ws changed ∙ ap (weighted_from 0 ws) (units_tenth digit n h) ∙ sym (weighted_shifted 0 ws n) in
      rw (one_digit_changed.there 0 digit n h, rest) (omega arith)
  exchanged_sum (suc p) n (w ∷ ws) l =
      let changed = with_digit (suc p) digit n in
      let rest : weighted_from 1 ws changed ≡ weighted_from 0 ws (with_digit p digit (n / 10)) = weighted_shifted 0 ws changed ∙ ap (weighted_from 0 ws) (tenth p digit n) in
      rw (one_digit_changed.elsewhere (suc p) digit n 0 h (λ e. omega arith), rest, weighted_shifted 0 ws n, digit_shifted p n)
      (omega (arith, exchanged_sum p (n / 10) ws (omega arith)))

-- what holds of every weight holds of that of each place
each_weight : (p : ℕ → Bool) (ws : List ℕ) → every p ws ≡ true → (place : ℕ) → place < length ws → p (get_or ws place 0) ≡ true
each_weight p [] e place h = absurd (omega arith)
each_weight p (w ∷ ws) e zero h = (every_cons p w ws e).0
each_weight p (w ∷ ws) e (suc q) h = each_weight p ws (every_cons p w ws e).1 q (omega arith)

-- none is above 10
pub product_most : (n place : ℕ) → place < length weights → n % 10 * get_or weights place 0 ≤ 90
unfolding weights every
product_most n place h =
    let most = leb-true (get_or weights place 0) 10 (each_weight (λ w. leb w 10) weights refl place h) in
    mul-le-mul {n₂ = 9} {m₂ = 10} (omega arith) most

-- none is a multiple of 11: each has an inverse, its own ninth power
weight_inverse : (place : ℕ) → place < length weights → get_or weights place 0 * get_or weights place 0 ^ 9 % weighted_modulus ≡ 1
unfolding weights every
weight_inverse place h =
    let w = get_or weights place 0 in
    eqb-true (w * w ^ 9 % weighted_modulus) 1 (each_weight (λ w. eqb (w * w ^ 9 % weighted_modulus) 1) weights refl place h)

-- so one wrong digit always changes the remainder
pub remainder_changed : (n place digit : ℕ) → place < length weights → digit < 10 → (digit ≡ digit_at place n → ⊥) → remainder n ≡ remainder (with_digit place digit n) → ⊥
unfolding remainder
remainder_changed n place digit l h other same =
    let w = get_or weights place 0 in
    let alike = (same_exactly 10 w (w ^ 9) (weight_inverse place l) (weighted_from 0 weights n) (weighted_from 0 weights (with_digit place digit n)) (digit_at place n) digit (exchanged_sum digit h place n weights l)).0 same in
    other (omega (arith, alike, digit_below place n))

pub remainder_below : (n : ℕ) → remainder n < weighted_modulus
unfolding remainder
remainder_below n = omega arith

-- what a remainder is taken to
pub data Taken (r d : ℕ) : Type 0 where
  nothing : r ≡ 0 → d ≡ 0 → Taken r d
  one : r ≡ 1 → d ≡ 1 → Taken r d
  rest : 2 ≤ r → d + r ≡ 11 → Taken r d

pub taken : (r : ℕ) → r < weighted_modulus → Taken r (one_figure (weighted_modulus - r))
unfolding one_figure
taken r h = go (eqb (weighted_modulus - r) 10) refl (eqb (weighted_modulus - r) 11) refl
  where
    go : (a : Bool) → eqb (weighted_modulus - r) 10 ≡ a → (b : Bool) → eqb (weighted_modulus - r) 11 ≡ b → Taken r (cond a 1 (cond b 0 (weighted_modulus - r)))
    go true e b f = one (omega (arith, eqb-true (weighted_modulus - r) 10 e)) refl
    go false e true f = nothing (omega (arith, eqb-true (weighted_modulus - r) 11 f)) refl
    go false e false f = rest (omega (arith, eqb-false (weighted_modulus - r) 10 e, eqb-false (weighted_modulus - r) 11 f)) (omega arith)

-- two remainders are taken to the same digit where they are the same, or 1 and 10
pub same_digit : (r s : ℕ) → r < weighted_modulus → s < weighted_modulus → (r ≡ s → ⊥) → (one_figure (weighted_modulus - r) ≡ one_figure (weighted_modulus - s)) ↔ (((r ≡ 1) × (s ≡ 10)) ⊎ ((r ≡ 10) × (s ≡ 1)))
unfolding one_figure
same_digit r s h k apart =
    (λ e. go (one_figure (weighted_modulus - r)) (one_figure (weighted_modulus - s)) e (taken r h) (taken s k), back)
  where
    go : (d f : ℕ) → d ≡ f → Taken r d → Taken s f → ((r ≡ 1) × (s ≡ 10)) ⊎ ((r ≡ 10) × (s ≡ 1))
    go d f e (nothing p x) (nothing q y) = absurd (apart (omega arith))
    go d f e (nothing p x) (one q y) = absurd (omega arith)
    go d f e (nothing p x) (rest q y) = absurd (omega arith)
    go d f e (one p x) (nothing q y) = absurd (omega arith)
    go d f e (one p x) (one q y) = absurd (apart (omega arith))
    go d f e (one p x) (rest q y) = inl (p, omega arith)
    go d f e (rest p x) (nothing q y) = absurd (omega arith)
    go d f e (rest p x) (one q y) = inr (omega arith, q)
    go d f e (rest p x) (rest q y) = absurd (apart (omega arith))

    back : ((r ≡ 1) × (s ≡ 10)) ⊎ ((r ≡ 10) × (s ≡ 1)) → one_figure (weighted_modulus - r) ≡ one_figure (weighted_modulus - s)
    back (inl (p, q)) = rw (p, q)
    back (inr (p, q)) = rw (p, q)
