-- Days of 2028, a leap year, as dates DDMM28 and as numbers from 1 to 366, over one table of the lengths of the months.
use Rattle.std.specs.Prelude.{ℕ, suc, ◌+◌, ◌*◌, ◌/◌, ◌%◌, ◌≤◌, ◌≡◌, Bool, true, ◌&&◌, List, [], ◌∷◌, ◌++◌, map, eqb, take, sum}
use Rattle.document.specs.Rules.{month_days, day_and_month}
use Rattle.calendar.specs.Rule.{year_days, from, entry_of}

-- the last two digits of the year
abbrev pub year : ℕ
year = 28

-- a day of a month as DDMM28, and back
abbrev pub dated : (day month : ℕ) → ℕ
dated day month = (day * 100 + month) * 100 + year

abbrev pub day_in : (date : ℕ) → ℕ
day_in date = date / 100 / 100

abbrev pub month_in : (date : ℕ) → ℕ
month_in date = date / 100 % 100

-- which numbers are dates of the year
unfoldable pub is_day2028 : (date : ℕ) → Bool
is_day2028 date = eqb (date % 100) year && day_and_month (date / 100)

-- the number of a date: the days of the months before, and the day
unfoldable pub day_number : (date : ℕ) → ℕ
day_number date = sum (take (month_in date) month_days) + day_in date

-- the dates of some months, in order, and of all
unfoldable pub dates_from : (month : ℕ) (lengths : List ℕ) → List ℕ
dates_from month [] = []
dates_from month (n ∷ ns) = map (λ (day : ℕ). dated day month) (from 1 n) ++ dates_from (suc month) ns

abbrev pub dates2028 : List ℕ
dates2028 = dates_from 0 month_days

-- the date of a number: the dates are counted from 1
unfoldable pub date_of : (number : ℕ) → ℕ
date_of number = entry_of dates2028 number

-- claimed, and proved in proofs/Laws/Dates: each date has its number and each day of the year its date
pub record NumberedDates : Type 0 where
  pub back : (date : ℕ) → is_day2028 date ≡ true → date_of (day_number date) ≡ date
  pub forth : (n : ℕ) → 1 ≤ n → n ≤ year_days → (is_day2028 (date_of n) ≡ true) × (day_number (date_of n) ≡ n)
