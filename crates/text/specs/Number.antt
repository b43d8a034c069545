-- Decimal numbers of a script.
use Rattle.std.specs.Prelude.{ℕ, ◌+◌, ◌*◌, ◌^◌, Bool, ◌&&◌, Option, Some, None, cond, List, [], ◌∷◌, ltb, leb, length}
use Rattle.packed.specs.Every.{every}
use Rattle.text.specs.Digit.{digit_value, is_decimal}

-- the value of digits: each weighs ten times the one after it
unfoldable pub decimal : List ℕ → ℕ
decimal [] = 0
decimal (b ∷ bs) = digit_value b * 10 ^ length bs + decimal bs

-- digits alone, whose value fits 64 bits
abbrev pub are_decimal : List ℕ → Bool
are_decimal w = every is_decimal w && ltb (decimal w) (2 ^ 64)

-- one digit at least, and at most twenty
abbrev pub is_sized : ℕ → Bool
is_sized count = ltb 0 count && leb count 20

unfoldable pub is_number : List ℕ → Bool
is_number w = is_sized (length w) && are_decimal w

-- a number, if it is one
abbrev pub number_if : Bool → ℕ → Option ℕ
number_if good value = cond good (Some value) None
