-- The place of a number in a list.
use Rattle.std.specs.Prelude.{ℕ, suc, cond, List, [], ◌∷◌, Option, Some, None, eqb}
use Rattle.packed.specs.Every.{member}

-- how many stand before the first that is the number; all of them where none is
unfoldable pub place_of : (number : ℕ) → List ℕ → ℕ
place_of number [] = 0
place_of number (n ∷ ns) = cond (eqb number n) 0 (suc (place_of number ns))

-- the place, where it has one
abbrev pub place_found : (number : ℕ) → List ℕ → Option ℕ
place_found number ns = cond (member number ns) (Some (place_of number ns)) None
