-- 01, 'Layouts': the value of packed bytes. It is defined on every byte: a half that is no digit counts as the number it is.
use Rattle.std.specs.Prelude.{ℕ, ◌+◌, ◌*◌, ◌^◌, ◌/◌, ◌%◌, List, [], ◌∷◌, length}

-- one byte: the high half tens, the low half units
unfoldable pub byte_value : ℕ → ℕ
byte_value b = b / 16 * 10 + b % 16

-- a run: each byte weighs a hundred times the one after it
unfoldable pub number : List ℕ → ℕ
number [] = 0
number (b ∷ bs) = byte_value b * 100 ^ length bs + number bs
