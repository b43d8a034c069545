-- When an answer is the one that a reading asks for: values where nothing applies, a number where it does.
use mathlib.Core.Path.{◌≡◌, refl, ap, sym, ◌∙◌}
use mathlib.Core.Bool.{Bool, true, false, not}
use mathlib.Core.List.{List, []}
use Prim.Native.Nat.{ℕ, ◌<◌}
use native.Mathlib.Omega.{arith}
use borrow.Author.Tests.{ne_eqb}
use Rattle.codes.specs.Chain.{◌when◌}
use Rattle.codes.specs.Refusal.{refusal_number}
use Rattle.codes.specs.declared.refusal.Refusal.{Refusal}
use Rattle.codes.proofs.Laws.Refusal.{never_none}
use Rattle.message.specs.Reading.{Reading, reading}

pub said_values : (n : ℕ) (values read : List ℕ) → n ≡ 0 → read ≡ values → reading 0 read ≡ reading n values
said_values n values read e h = rw (e, h)

pub said_number : (n m : ℕ) (values : List ℕ) → 0 < m → n ≡ m → reading m [] ≡ reading n values
said_number n m values h e = rw (e, ne_eqb m 0 (λ (z : m ≡ 0). omega arith))

-- and what an answer tells of the reading
pub number_told : (n m : ℕ) (values : List ℕ) → reading m [] ≡ reading n values → n ≡ m
number_told n m values e = sym (ap (λ (r : Reading). r.number) e)

pub refusal_told : (n : ℕ) (good : Bool) (r : Refusal) (values : List ℕ) → reading (refusal_number r) [] ≡ reading (n when not good) values → (good ≡ false) × (refusal_number r ≡ n)
unfolding ◌when◌
refusal_told n true r values e = absurd (never_none r (sym (number_told 0 (refusal_number r) values e)))
refusal_told n false r values e = (refl, sym (number_told n (refusal_number r) values e))

pub told : (n : ℕ) (values read : List ℕ) → reading 0 read ≡ reading n values → (n ≡ 0) × (values ≡ read)
told n values read e =
    let none : n ≡ 0 = sym (ap (λ (r : Reading). r.number) e) in
    (none, sym (ap (λ (r : Reading). r.values) e ∙ rw none))
