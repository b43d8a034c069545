-- Laws of the months: together they are no longer than the year; and of counting days through them.
use mathlib.Core.Path.{◌≡◌, refl, ap, sym, ◌∙◌}
use mathlib.Core.Bool.{Bool, true, false, ◌&&◌, and-false}
use mathlib.Core.Logic.{⊎_elim}
use mathlib.Core.List.{List, [], ◌∷◌, ◌++◌, map}
use Prim.Native.Nat.{ℕ, zero, suc, ◌+◌, ◌-◌, ◌/◌, ◌%◌, ◌≤◌, ◌<◌}
use native.Mathlib.Nat.{zero-add, add-zero, not-suc-le-zero, eq-or-lt_of_le}
use native.Mathlib.Omega.{arith}
use borrow.Author.Tests.{leb-true, eqb-true, ltb-true, ltb-false, lt-leb}
use lib.Dec.{eqb, leb, ltb}
use lib.ListN.{length, take, drop, get_or, length-map, drop_of_length-le, get_or-append, get_or-eq_default}
use lib.Seq.{drop-cons, get_or-append-add}
use Rattle.std.specs.List.{sum}
use Rattle.std.proofs.lemmas.List.Sums.{sum_by-cons, sum_by-take-le, sum_by_more_le}
use Rattle.packed.specs.Every.{every}
use Rattle.packed.proofs.Laws.Every.{every_cons}
use Rattle.packed.proofs.Laws.Told.{both}
use Rattle.document.specs.Rules.{month_days, day_and_month}
use Rattle.calendar.specs.Rule.{year_days, from, entry_of}
use Rattle.calendar.proofs.Laws.Rule.{length_from, entry_from}
use Rattle.calendar.proofs.Laws.Ascending.{at_most}
use Rattle.calendar.specs.Dates.{year, dated, day_in, month_in, is_day2028, day_number, dates_from, date_of, NumberedDates}

-- one month more, and at most all of them
pub within_year : (month : ℕ) → sum (take month month_days) + get_or month_days month 0 ≤ year_days
unfolding month_days
within_year month = go (ltb month 13) refl
  where
    go : (t : Bool) → ltb month 13 ≡ t → sum (take month month_days) + get_or month_days month 0 ≤ year_days
    go true e = sum_by_more_le (λ x. x) month_days month 0 (ltb-true month 13 e)
    go false e = rw (get_or-eq_default month_days 0 {n = month} (ltb-false month 13 e)) (omega (arith, sum_by-take-le (λ x. x) month_days month))

-- a date has a day of a month of the table
in_table : (date : ℕ) → is_day2028 date ≡ true → (date % 100 ≡ year) × (1 ≤ day_in date) × (day_in date ≤ get_or month_days (month_in date) 0)
unfolding is_day2028
in_table date e =
    let days = get_or month_days (month_in date) 0 in
    let t = both (eqb (date % 100) year) (day_and_month (date / 100)) e in
    let d = both (leb 1 (day_in date)) (leb (day_in date) days) t.1 in
    (eqb-true (date % 100) year t.0, leb-true 1 (day_in date) d.0, leb-true (day_in date) days d.1)

-- no month is longer than 31 days, and no day of one is later
pub month_short : (month : ℕ) → get_or month_days month 0 ≤ 31
unfolding month_days every
month_short month = at_most 31 month_days month refl

pub day_short : (date : ℕ) → is_day2028 date ≡ true → day_in date ≤ 31
day_short date e = omega (arith, (in_table date e).2, month_short (month_in date))

-- so a number of five digits or more is none
pub no_day : (date : ℕ) → 10000 ≤ date / 100 → is_day2028 date ≡ false
unfolding is_day2028
no_day date h =
    let month = month_in date in
    rw (lt-leb (day_in date) (get_or month_days month 0) (omega (arith, month_short month)), and-false (leb 1 (day_in date)), and-false (eqb (date % 100) year))

-- its number is one of the year's
pub number_within : (date : ℕ) → is_day2028 date ≡ true → (1 ≤ day_number date) × (day_number date ≤ year_days)
unfolding day_number
number_within date e =
    let t = in_table date e in
    let month = month_in date in
    (omega (arith, t.1), omega (arith, t.2, within_year month))

-- a day lies in the first of some months, or in those after it
dates_in : (month n : ℕ) → List ℕ
dates_in month n = map (λ (day : ℕ). dated day month) (from 1 n)

length_dates : (month n : ℕ) → length (dates_in month n) ≡ n
unfolding dates_in
length_dates month n = length-map (from 1 n) (λ (day : ℕ). dated day month) ∙ length_from 1 n

in_month : (month n : ℕ) (ns : List ℕ) (day : ℕ) → 0 < day → day ≤ n → entry_of (dates_from month (n ∷ ns)) day ≡ dated day month
unfolding dates_from dates_in
in_month month n ns (suc k) h g =
    get_or-append (dates_in month n) (dates_from (suc month) ns) 0 k (omega (arith, length_dates month n))
    ∙ entry_from (λ (day : ℕ). dated day month) 1 n k (omega arith)
    ∙ ap (λ (day : ℕ). dated day month) {x = 1 + k} {y = suc k} (omega arith)
in_month month n ns zero h g = absurd (not-suc-le-zero h)

after_month : (month n : ℕ) (ns : List ℕ) (day : ℕ) → n < day → entry_of (dates_from month (n ∷ ns)) day ≡ entry_of (dates_from (suc month) ns) (day - n)
unfolding dates_from dates_in
after_month month n ns (suc k) g =
    let past : length (dates_in month n) + (k - n) ≡ k = omega (arith, length_dates month n) in
    ap (λ (i : ℕ). get_or (dates_in month n ++ dates_from (suc month) ns) i 0) (sym past)
    ∙ get_or-append-add (dates_in month n) (dates_from (suc month) ns) (k - n) 0
    ∙ ap (entry_of (dates_from (suc month) ns)) {x = suc (k - n)} {y = suc k - n} (omega arith)
after_month month n ns zero g = absurd (not-suc-le-zero g)

no_month : (month day : ℕ) → entry_of (dates_from month []) day ≡ 0
unfolding dates_from
no_month month zero = refl
no_month month (suc k) = refl

-- the days of some months lead past them
counted_on : (month : ℕ) (ns : List ℕ) (k day : ℕ) → 0 < day → entry_of (dates_from month ns) (sum (take k ns) + day) ≡ entry_of (dates_from (month + k) (drop k ns)) day
counted_on month ns zero day h = rw (zero-add day, add-zero month)
counted_on month [] (suc k) day h = no_month month (0 + day) ∙ sym (no_month (month + suc k) day)
counted_on month (n ∷ ns) (suc k) day h =
    ap (λ (m : ℕ). entry_of (dates_from month (n ∷ ns)) (m + day)) (sum_by-cons (λ x. x) n (take k ns))
    ∙ after_month month n ns (n + sum (take k ns) + day) (omega arith)
    ∙ ap (entry_of (dates_from (suc month) ns)) {x = n + sum (take k ns) + day - n} {y = sum (take k ns) + day} (omega arith)
    ∙ counted_on (suc month) ns k day h
    ∙ ap (λ (m : ℕ). entry_of (dates_from m (drop k ns)) day) {x = suc month + k} {y = month + suc k} (omega arith)

-- and a day of a month of the table, at its place there
module _ (month day : ℕ) (h : month < length month_days) where
  at_place : entry_of (dates_from month (drop month month_days)) day ≡ entry_of (dates_from month (get_or month_days month 0 ∷ drop (suc month) month_days)) day
  at_place = ap (λ (ns : List ℕ). entry_of (dates_from month ns) day) (drop-cons month_days month 0 h)

  pub in_month_at : 0 < day → day ≤ get_or month_days month 0 → entry_of (dates_from month (drop month month_days)) day ≡ dated day month
  in_month_at g k = at_place ∙ in_month month (get_or month_days month 0) (drop (suc month) month_days) day g k

  pub after_month_at : get_or month_days month 0 < day → entry_of (dates_from month (drop month month_days)) day ≡ entry_of (dates_from (suc month) (drop (suc month) month_days)) (day - get_or month_days month 0)
  after_month_at g = at_place ∙ after_month month (get_or month_days month 0) (drop (suc month) month_days) day g

pub past_months : (month day : ℕ) → length month_days ≤ month → entry_of (dates_from month (drop month month_days)) day ≡ 0
past_months month day h = ap (λ (ns : List ℕ). entry_of (dates_from month ns) day) (drop_of_length-le month_days {i = month} h) ∙ no_month month day

-- no entry stands past the end
within : (ns : List ℕ) (k : ℕ) → 1 ≤ get_or ns k 0 → k < length ns
within [] k h = absurd (not-suc-le-zero h)
within (n ∷ ns) zero h = omega arith
within (n ∷ ns) (suc k) h = omega (arith, within ns k h)

-- so the month of a date is one of the table
pub month_within : (date : ℕ) → is_day2028 date ≡ true → month_in date < length month_days
month_within date e = let t = in_table date e in within month_days (month_in date) (omega (arith, t.1, t.2))

back : (date : ℕ) → is_day2028 date ≡ true → date_of (day_number date) ≡ date
unfolding date_of day_number
back date e =
    let t = in_table date e in
    let month = month_in date in
    let again : dated (day_in date) month ≡ date = omega (arith, t.0) in
    counted_on 0 month_days month (day_in date) t.1
    ∙ ap (λ (m : ℕ). entry_of (dates_from m (drop month month_days)) (day_in date)) (zero-add month)
    ∙ in_month_at month (day_in date) (month_within date e) t.1 t.2
    ∙ again

-- and each day of the year has a date: a test that antt computes for all of them
every_from : (p : ℕ → Bool) (a k : ℕ) → every p (from a k) ≡ true → (n : ℕ) → a ≤ n → n < a + k → p n ≡ true
unfolding from
every_from p a zero e n h g = absurd (omega arith)
every_from p a (suc k) e n h g =
    let t = every_cons p a (from (suc a) k) e in
    ⊎_elim (λ same. ap p (sym same) ∙ t.0) (λ less. every_from p (suc a) k t.1 n less (omega arith)) (eq-or-lt_of_le h)

numbered : ℕ → Bool
numbered n = is_day2028 (date_of n) && eqb (day_number (date_of n)) n

forth : (n : ℕ) → 1 ≤ n → n ≤ year_days → (is_day2028 (date_of n) ≡ true) × (day_number (date_of n) ≡ n)
unfolding numbered every from is_day2028 date_of dates_from day_number month_days
forth n h g =
    let t = both (is_day2028 (date_of n)) (eqb (day_number (date_of n)) n) (every_from numbered 1 year_days refl n h (omega arith)) in
    (t.0, eqb-true (day_number (date_of n)) n t.1)

pub numbered_dates : NumberedDates
numbered_dates = record { back = back; forth = forth }
