-- 02, card 1: the next working day. Days are numbers, 1 for 1 January to 366 for 31 December of a leap year; those that are not worked come
-- as a list.
use Rattle.std.specs.Prelude.{ℕ, zero, suc, ◌-◌, ◌<◌, ◌≤◌, ◌≡◌, Bool, true, not, cond, List, [], ◌∷◌, map, get_or}
use Rattle.packed.specs.Every.{member}

-- the days of a leap year
abbrev pub year_days : ℕ
year_days = 366

-- a day that is not in the list is worked
abbrev pub worked : (unworked : List ℕ) → ℕ → Bool
worked unworked day = not (member day unworked)

-- a working day of the year after a day
pub record WorkedAfter (unworked : List ℕ) (day n : ℕ) : Type 0 where
  pub after : day < n
  pub in_year : n ≤ year_days
  pub works : worked unworked n ≡ true

-- 'the number of the first later working day, or 0 if the year has none'
pub data FirstLater (unworked : List ℕ) (day n : ℕ) : Type 0 where
  found : WorkedAfter unworked day n → ((m : ℕ) → WorkedAfter unworked day m → n ≤ m) → FirstLater unworked day n
  none : n ≡ 0 → ((m : ℕ) → WorkedAfter unworked day m → ⊥) → FirstLater unworked day n

-- The same as a function.

-- numbers in a row, `count` of them, from `first` on
unfoldable pub from : (first count : ℕ) → List ℕ
from first zero = []
from first (suc n) = first ∷ from (suc first) n

-- the days of the year that come after a day, in order
unfoldable pub later : (day : ℕ) → List ℕ
later day = from (suc day) (year_days - day)

-- all days of the year
abbrev pub all_days : List ℕ
all_days = later 0

-- those of some days that pass a test, in their order
unfoldable pub those : (ℕ → Bool) → List ℕ → List ℕ
those p [] = []
those p (d ∷ ds) = let rest = those p ds in cond (p d) (d ∷ rest) rest

-- the first of some days, 0 where there is none
abbrev pub first_of : List ℕ → ℕ
first_of [] = 0
first_of (d ∷ ds) = d

-- the first of the later days that are worked
unfoldable pub next_day : (unworked : List ℕ) (day : ℕ) → ℕ
next_day unworked day = first_of (those (worked unworked) (later day))

-- the table has an entry for each day of the year
unfoldable pub table_of : (unworked : List ℕ) → List ℕ
table_of unworked = map (next_day unworked) all_days

-- an entry of a list, counted from 1 as days are; 0 where there is none
abbrev pub entry_of : (list : List ℕ) (number : ℕ) → ℕ
entry_of list number = get_or (0 ∷ list) number 0

-- claimed, and proved in proofs/Laws/Rule: the function and the table give what the rule says, and the rule says nothing else
pub record AsTheRule : Type 0 where
  pub follows : (unworked : List ℕ) (day : ℕ) → FirstLater unworked day (next_day unworked day)
  pub entries : (unworked : List ℕ) (day : ℕ) → 1 ≤ day → day ≤ year_days → FirstLater unworked day (entry_of (table_of unworked) day)
  pub alone : (unworked : List ℕ) (day n : ℕ) → FirstLater unworked day n → n ≡ next_day unworked day
