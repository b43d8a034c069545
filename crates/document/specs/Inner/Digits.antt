-- The digits of a document in the runs in which the code tests them: places are counted from 0, amounts lie between fields, and the key is last.
use Rattle.std.specs.Prelude.{Bool, ◌&&◌, List, ℕ}
use Rattle.packed.specs.Part.{part}
use Rattle.packed.specs.Digits.{are_digits}

-- reference to claims, and drawee to tariff key
abbrev pub field_digits : List ℕ → Bool
field_digits d = are_digits (part 0 25 d) && are_digits (part 31 12 d)

-- nominal and commission
abbrev pub amount_digits : List ℕ → Bool
amount_digits d = are_digits (part 25 6 d) && are_digits (part 43 4 d)

-- everything before the key
abbrev pub digits_to_key : List ℕ → Bool
digits_to_key d = are_digits (part 0 47 d)
