-- 02, card 1: the year 2028, which days of it are not worked, and what its table has for a day.
use Rattle.std.specs.Prelude.{ℕ, ◌-◌, ◌%◌, Bool, ◌||◌, List, [], ◌∷◌, map, eqb}
use Rattle.packed.specs.Every.{member}
use Rattle.calendar.specs.Rule.{all_days, those, table_of, entry_of}
use Rattle.calendar.specs.Dates.{dated, day_number}

-- 'Day 1 is a Saturday': the days of the week, counted from 0 for a Saturday
abbrev pub weekday : (day : ℕ) → ℕ
weekday day = (day - 1) % 7

abbrev pub saturday : ℕ
saturday = 0

abbrev pub sunday : ℕ
sunday = 1

-- '1 and 6 January, 1 May, 12 October and 25 December'
unfoldable pub holidays : List ℕ
holidays = dated 1 1 ∷ dated 6 1 ∷ dated 1 5 ∷ dated 12 10 ∷ dated 25 12 ∷ []

-- whether a day is one of them
abbrev pub is_holiday : (day : ℕ) → Bool
is_holiday day = member day (map day_number holidays)

-- these, 'Saturdays' and 'Sundays' 'are not worked'
abbrev pub is_unworked : (day : ℕ) → Bool
is_unworked day = eqb (weekday day) saturday || eqb (weekday day) sunday || is_holiday day

-- all of them, in order
unfoldable pub unworked2028 : List ℕ
unworked2028 = those is_unworked all_days

-- the table's entry of a day, 0 for a number that is no day of the year
unfoldable pub next_in2028 : (day : ℕ) → ℕ
next_in2028 day = entry_of (table_of unworked2028) day
