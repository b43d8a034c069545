-- 02, card 1: the values that it prints, lists and dates at the edges, and every holiday, computed from the definitions.
use mathlib.Core.Path.{◌≡◌, refl}
use mathlib.Core.List.{[], ◌∷◌, ◌++◌}
use Prim.Native.Nat.{ℕ}
use Rattle.packed.specs.Every.{every, member}
use Rattle.codes.specs.Chain.{◌when◌, ◌orelse◌}
use Rattle.codes.proofs.Cases.{◌is◌, AllDue}
use Rattle.document.specs.Rules.{month_days}
use Rattle.calendar.specs.Rule.{all_days, from, later, those, next_day, table_of}
use Rattle.calendar.specs.Generator.{ascending, good_list, table_refusal, places_after}
use Rattle.calendar.specs.Dates.{is_day2028, day_number, dates_from, date_of}
use Rattle.calendar.specs.Year.{holidays, is_holiday, unworked2028, next_in2028}
use Rattle.calendar.specs.Compensation.{on_day, compensation}
use Rattle.calendar.specs.Shown.{shown}

-- what C is shown for a date: which answer, and the date
abbrev found : (date : ℕ) → ℕ
found date = (shown (compensation date)).found

abbrev gives : (date : ℕ) → ℕ
gives date = (shown (compensation date)).date

all_due : AllDue
    -- 'Day 1 is a Saturday and gives 3, day 5 gives 7, day 363 gives 364, day 364 gives 0'
    (next_day unworked2028 1 is 3
    ∷ next_day unworked2028 5 is 7
    ∷ next_day unworked2028 363 is 364
    ∷ next_day unworked2028 364 is 0
    -- numbers that are no day of the year
    ∷ next_in2028 0 is 0
    ∷ next_in2028 367 is 0
    -- every day worked, and none
    ∷ next_day [] 1 is 2
    ∷ next_day [] 365 is 366
    ∷ next_day [] 366 is 0
    ∷ next_day all_days 1 is 0
    -- lists that are good: of no day, of the last, of all; and one place too few
    ∷ table_refusal [] 366 is 0
    ∷ table_refusal (366 ∷ []) 366 is 0
    ∷ table_refusal all_days 366 is 0
    ∷ table_refusal [] 365 is 23
    -- lists that are not: a day twice, a day after a later one, day 367, day 0; also with too few places
    ∷ table_refusal (1 ∷ 1 ∷ []) 366 is 40
    ∷ table_refusal (2 ∷ 1 ∷ []) 366 is 40
    ∷ table_refusal (366 ∷ 367 ∷ []) 366 is 40
    ∷ table_refusal (0 ∷ []) 366 is 40
    ∷ table_refusal (0 ∷ []) 365 is 40
    -- dates: 5 January, and the last working days before 1 May, 12 October and 25 December
    ∷ found 50128 is 0
    ∷ gives 50128 is 70128
    ∷ gives 280428 is 20528
    ∷ gives 111028 is 131028
    ∷ gives 221228 is 261228
    -- around 29 February
    ∷ gives 280228 is 290228
    ∷ gives 290228 is 10328
    -- the last date that has one, and the last working day
    ∷ gives 281228 is 291228
    ∷ found 291228 is 1
    ∷ gives 291228 is 0
    ∷ found 311228 is 1
    -- no days: of other years, 30 February, month 13, month and day 0, one digit too many
    ∷ found 10127 is 2
    ∷ gives 10127 is 0
    ∷ found 10129 is 2
    ∷ found 300228 is 2
    ∷ found 11328 is 2
    ∷ found 10028 is 2
    ∷ found 128 is 2
    ∷ found 1010128 is 2
    ∷ [])
unfolding next_day unworked2028 those later from member holidays day_number month_days good_list ascending every table_refusal ◌when◌ ◌orelse◌ compensation on_day next_in2028 table_of is_day2028 date_of dates_from
all_due = refl

-- the five holidays by their numbers, and no other day
holidays_numbered : those is_holiday all_days ≡ 1 ∷ 6 ∷ 122 ∷ 286 ∷ 360 ∷ []
unfolding those later from member holidays day_number month_days
holidays_numbered = refl

-- what is left in lent places: behind the table all is kept, and where the call is refused everywhere
places_after_lem : AllDue
    (places_after [] (all_days ++ 7 ∷ 9 ∷ []) is (table_of [] ++ 7 ∷ 9 ∷ [])
    ∷ places_after [] (7 ∷ 9 ∷ []) is (7 ∷ 9 ∷ [])
    ∷ places_after (0 ∷ []) all_days is all_days
    ∷ [])
unfolding places_after table_refusal good_list ascending every ◌when◌ ◌orelse◌ later from
places_after_lem = refl
