-- 01, 'Centres and directions', and 02, card 2: the hours, in seconds of the day.
use Rattle.std.specs.Prelude.{ℕ, Bool, ◌&&◌, leb, ltb}

abbrev pub opening : ℕ
opening = 75600  -- 21:00

abbrev pub preclose : ℕ
preclose = 83700  -- 23:15

abbrev pub cut_off : ℕ
cut_off = 83730  -- 23:15:30, the preclose and the margin for clocks that differ

abbrev pub close : ℕ
close = 84600  -- 23:30

abbrev pub last_second : ℕ
last_second = 86399  -- 23:59:59

-- 20: no time of a day
abbrev pub past_day : ℕ → Bool
past_day time = ltb last_second time

-- 31 otherwise: from the opening on, and before the close
abbrev pub within_hours : ℕ → Bool
within_hours time = leb opening time && ltb time close

-- 10 at the presenter, by its own clock
abbrev pub presenter_late : ℕ → Bool
presenter_late time = leb preclose time

-- 10 at the receiver, by its own
abbrev pub receiver_late : ℕ → Bool
receiver_late time = leb cut_off time

-- a clock call then closes
abbrev pub at_close : ℕ → Bool
at_close time = leb close time
