-- 02, card 1: the compensation date of a day, the first working day after it in 2028.
use Rattle.std.specs.Prelude.{ℕ, zero, suc, ◌≡◌, true, false, cond, Result, Ok, Err}
use Rattle.calendar.specs.Rule.{FirstLater}
use Rattle.calendar.specs.Dates.{is_day2028, day_number, date_of}
use Rattle.calendar.specs.Year.{unworked2028, next_in2028}
use Rattle.calendar.specs.declared.compensation.NoDate.{NoDate}

-- the answer for the number of the next working day, 0 where there is none
unfoldable pub on_day : (next : ℕ) → Result ℕ NoDate
on_day zero = Err NoDate.NoneLeft
on_day (suc n) = Ok (date_of (suc n))

-- the compensation date of a date DDMM28; a number that is no date of 2028 has none
unfoldable pub compensation : (date : ℕ) → Result ℕ NoDate
compensation date = cond (is_day2028 date) (on_day (next_in2028 (day_number date))) (Err NoDate.NoDay)

-- what each answer says of the date that was asked for: its next working day is that of d; the year has none; it is no day of 2028
abbrev pub Says : (date : ℕ) → Result ℕ NoDate → Type 0
Says date (Ok d) = (is_day2028 date ≡ true) × (is_day2028 d ≡ true) × FirstLater unworked2028 (day_number date) (day_number d)
Says date (Err NoDate.NoneLeft) = (is_day2028 date ≡ true) × FirstLater unworked2028 (day_number date) 0
Says date (Err NoDate.NoDay) = is_day2028 date ≡ false

-- claimed, and proved in proofs/Laws/Compensation: what is answered is so
abbrev pub EveryAnswerTrue : Type 0
EveryAnswerTrue = (date : ℕ) → Says date (compensation date)
