-- 01, 'Detail': the values that a field takes where a range is stated.
use Rattle.std.specs.Prelude.{ℕ, ◌/◌, ◌%◌, Bool, ◌||◌, cond, List, [], ◌∷◌, eqb, get_or}
use Rattle.codes.specs.Field.{any, between}
use Rattle.document.specs.Operation.{returned}

-- 0000 or 80NN
abbrev pub identification : ℕ → Bool
identification v = eqb v 0 || eqb (v / 100) 80

-- the days of each month from 00, which has none, to 12; 29 February is always allowed
unfoldable pub month_days : List ℕ
month_days = 0 ∷ 31 ∷ 29 ∷ 31 ∷ 30 ∷ 31 ∷ 30 ∷ 31 ∷ 31 ∷ 30 ∷ 31 ∷ 30 ∷ 31 ∷ []

-- DDMM: a day of its month
abbrev pub day_and_month : ℕ → Bool
day_and_month v = between 1 (get_or month_days (v % 100) 0) (v / 100)

-- 01 to 52
abbrev pub province : ℕ → Bool
province v = between 1 52 v

-- 01 or 02
abbrev pub truncation : ℕ → Bool
truncation v = between 1 2 v

-- 0001 to 0049, or that plus 50
abbrev pub reason : ℕ → Bool
reason v = between 1 49 v || between 51 99 v

-- positions 46-47: a return's reason, else a tariff key of any digits
abbrev pub key_or_reason : (operation v : ℕ) → Bool
key_or_reason operation v = cond (eqb operation returned) (reason v) (any v)
