-- A list cut into pieces of one width, the last with what is left: how 01 lays groups into a body and documents into a group.
use Rattle.std.specs.Prelude.{ℕ, zero, suc, List, [], ◌∷◌, length, take, drop}

-- pieces of width k, n at most, until nothing is left
unfoldable pub cut : (k n : ℕ) → List ℕ → List (List ℕ)
cut k zero s = []
cut k (suc n) [] = []
cut k (suc n) (x ∷ s) = take k (x ∷ s) ∷ cut k n (drop k (x ∷ s))

-- all of them: a list has no more pieces than elements
abbrev pub pieces : (k : ℕ) → List ℕ → List (List ℕ)
pieces k s = cut k (length s) s
