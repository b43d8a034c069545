-- 01, 'Layouts': which bytes are packed digits.
use Rattle.std.specs.Prelude.{ℕ, ◌/◌, ◌%◌, Bool, ◌&&◌, List, ltb}
use Rattle.packed.specs.Every.{every}

-- both halves of a byte are decimal digits
unfoldable pub is_digits : ℕ → Bool
is_digits b = ltb (b / 16) 10 && ltb (b % 16) 10

-- every byte of a run is two digits
abbrev pub are_digits : List ℕ → Bool
are_digits bs = every is_digits bs
