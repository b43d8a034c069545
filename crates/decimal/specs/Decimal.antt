-- Decimal text in ASCII, as 01's check program prints its numbers.
use Rattle.std.specs.Prelude.{ℕ, zero, suc, ◌+◌, ◌/◌, ◌%◌, cond, List, [], ◌∷◌, ◌++◌, ltb}

-- a digit
abbrev pub glyph : ℕ → ℕ
glyph d = 0x30 + d

-- the digits of a value, the highest first and at most so many: those of its tenth, if there are any, and its last
unfoldable pub digits_up_to : (most v : ℕ) → List ℕ
digits_up_to zero v = []
digits_up_to (suc n) v = cond (ltb v 10) [] (digits_up_to n (v / 10)) ++ glyph (v % 10) ∷ []

-- all of them: v + 1 is at least as many as v has
unfoldable pub decimal : ℕ → List ℕ
decimal v = digits_up_to (suc v) v

-- a number of 64 bits has no more digits
abbrev pub most_digits : ℕ
most_digits = 20

-- a number behind a space
abbrev pub space : ℕ
space = 0x20

abbrev pub behind_space : ℕ → List ℕ
behind_space v = space ∷ decimal v

abbrev pub most_behind_space : ℕ
most_behind_space = suc most_digits
