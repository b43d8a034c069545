-- A test at every element of a list, or at any one of them; whether a number is in a list, is there twice, or is
-- larger than one.
use Rattle.std.specs.Prelude.{ℕ, Bool, true, false, not, ◌&&◌, ◌||◌, List, [], ◌∷◌, eqb, leb}

-- whether p holds of each element
unfoldable pub every {ℓ} : {A : Type ℓ} → (A → Bool) → List A → Bool
every p [] = true
every p (x ∷ xs) = p x && every p xs

-- whether p holds of one element at least
unfoldable pub any_of {ℓ} : {A : Type ℓ} → (A → Bool) → List A → Bool
any_of p [] = false
any_of p (x ∷ xs) = p x || any_of p xs

-- whether a number is among some
unfoldable pub member : ℕ → List ℕ → Bool
member n [] = false
member n (x ∷ xs) = eqb n x || member n xs

-- whether no number is there twice
unfoldable pub none_twice : List ℕ → Bool
none_twice [] = true
none_twice (n ∷ ns) = not (member n ns) && none_twice ns

-- whether none is larger than one
abbrev pub none_above : (largest : ℕ) → List ℕ → Bool
none_above largest ns = every (λ (n : ℕ). leb n largest) ns
