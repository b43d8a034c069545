-- A test at every byte from a place on: it goes on, fails there, and is over at the end.
use mathlib.Core.Path.{◌≡◌, ap, sym, ◌∙◌}
use mathlib.Core.Bool.{Bool, true, false, ◌&&◌}
use mathlib.Core.List.{List}
use Prim.Native.Nat.{ℕ, suc, ◌+◌, ◌≤◌, ◌<◌}
use native.Mathlib.Numerals.{add-one}
use lib.ListN.{length, drop, get_or, drop_of_length-le}
use lib.Seq.{drop-cons}
use Rattle.packed.specs.Every.{every}

module _ (p : ℕ → Bool) (l : List ℕ) (i : ℕ) where
  step : i < length l → every p (drop i l) ≡ p (get_or l i 0) && every p (drop (suc i) l)
  unfolding every
  step h = ap (every p) (drop-cons l i 0 h)

  pub every_on : i < length l → p (get_or l i 0) ≡ true → every p (drop (i + 1) l) ≡ every p (drop i l)
  every_on h e = ap (λ (k : ℕ). every p (drop k l)) (add-one i) ∙ sym (step h ∙ ap (λ (b : Bool). b && every p (drop (suc i) l)) e)

  pub every_not : i < length l → p (get_or l i 0) ≡ false → every p (drop i l) ≡ false
  every_not h e = step h ∙ ap (λ (b : Bool). b && every p (drop (suc i) l)) e

  pub every_end : length l ≤ i → every p (drop i l) ≡ true
  unfolding every
  every_end h = ap (every p) (drop_of_length-le l {i = i} h)
