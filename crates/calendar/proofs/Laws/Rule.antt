-- Laws of the rule: one day more in front of the later ones; which days a list made by a test has; and that the function is the rule.
use mathlib.Core.Path.{◌≡◌, refl, ap, sym, subst, ◌∙◌}
use mathlib.Core.Bool.{Bool, true, false, not, cond, true≢false}
use mathlib.Core.Logic.{⊎_elim}
use mathlib.Core.List.{List, [], ◌∷◌, map}
use Prim.Native.Nat.{ℕ, zero, suc, ◌+◌, ◌-◌, ◌≤◌, ◌<◌}
use native.Mathlib.Nat.{add-zero, not-suc-le-zero, eq-or-lt_of_le}
use native.Mathlib.Omega.{arith}
use borrow.Author.Tests.{eq-eqb, ne_eqb}
use lib.ListN.{length, get_or, length-map}
use Rattle.packed.specs.Every.{member}
use Rattle.calendar.specs.Rule.{year_days, WorkedAfter, FirstLater, found, none, AsTheRule, worked, from, later, those, next_day, table_of, entry_of}

-- the day after a day is the first of the later ones
pub later_step : (day : ℕ) → day < year_days → later day ≡ suc day ∷ later (suc day)
unfolding later from
later_step day h = ap (from (suc day)) {x = year_days - day} {y = suc (year_days - suc day)} (omega arith)

-- and from the last day on there is none
pub none_later : (day : ℕ) → year_days ≤ day → later day ≡ []
unfolding later from
none_later day h = ap (from (suc day)) {x = year_days - day} {y = 0} (omega arith)

-- so it is the next working day, unless it is in the list
pub unlisted_next : (unworked : List ℕ) (day : ℕ) → day < year_days → member (suc day) unworked ≡ false → next_day unworked day ≡ suc day
unfolding next_day those
unlisted_next unworked day h e = rw (later_step day h, e)

pub listed_next : (unworked : List ℕ) (day : ℕ) → day < year_days → member (suc day) unworked ≡ true → next_day unworked day ≡ next_day unworked (suc day)
unfolding next_day those
listed_next unworked day h e = rw (later_step day h, e)

pub none_next : (unworked : List ℕ) (day : ℕ) → year_days ≤ day → next_day unworked day ≡ 0
unfolding next_day those
none_next unworked day h = rw (none_later day h)

-- the table has an entry for each day
pub length_from : (a k : ℕ) → length (from a k) ≡ k
unfolding from
length_from a zero = refl
length_from a (suc k) = ap suc (length_from (suc a) k)

pub length_table : (unworked : List ℕ) → length (table_of unworked) ≡ year_days
unfolding table_of later
length_table unworked = length-map (from 1 year_days) (next_day unworked) ∙ length_from 1 year_days

-- entries are counted from 1, places from 0
pub place_of : (list : List ℕ) (number : ℕ) → 0 < number → get_or list (number - 1) 0 ≡ entry_of list number
place_of list (suc n) h = ap (λ (k : ℕ). get_or list k 0) {x = suc n - 1} {y = n} (omega arith)
place_of list zero h = omega arith

-- what is made of numbers in a row, one by one
pub entry_from : (f : ℕ → ℕ) (a k i : ℕ) → i < k → get_or (map f (from a k)) i 0 ≡ f (a + i)
unfolding from
entry_from f a (suc k) zero h = ap f (sym (add-zero a))
entry_from f a (suc k) (suc i) h = entry_from f (suc a) k i (omega arith) ∙ ap f {x = suc a + i} {y = a + suc i} (omega arith)
entry_from f a zero i h = absurd (not-suc-le-zero h)

-- so each entry of the table is its day's
pub entry : (unworked : List ℕ) (day : ℕ) → 1 ≤ day → day ≤ year_days → entry_of (table_of unworked) day ≡ next_day unworked day
unfolding table_of later
entry unworked (suc n) h g = entry_from (next_day unworked) 1 year_days n (omega arith) ∙ ap (next_day unworked) {x = 1 + n} {y = suc n} (omega arith)
entry unworked zero h g = absurd (not-suc-le-zero h)

-- a list made of those days that pass a test has a day where the test says so
at_head : (kept : Bool) (n a : ℕ) (ds : List ℕ) → a ≡ n → member n ds ≡ false → member n (cond kept (a ∷ ds) ds) ≡ kept
unfolding member
at_head true n a ds e h = rw (eq-eqb n a (sym e))
at_head false n a ds e h = h

past_head : (kept : Bool) (n a : ℕ) (ds : List ℕ) → (n ≡ a → ⊥) → member n (cond kept (a ∷ ds) ds) ≡ member n ds
unfolding member
past_head true n a ds ne = rw (ne_eqb n a ne)
past_head false n a ds ne = refl

none_below : (p : ℕ → Bool) (n a k : ℕ) → n < a → member n (those p (from a k)) ≡ false
unfolding those from member
none_below p n a zero h = refl
none_below p n a (suc k) h = past_head (p a) n a (those p (from (suc a) k)) (λ e. omega arith) ∙ none_below p n (suc a) k (omega arith)

pub listed_exactly : (p : ℕ → Bool) (n a k : ℕ) → a ≤ n → n < a + k → member n (those p (from a k)) ≡ p n
unfolding those from
listed_exactly p n a zero h g = absurd (omega arith)
listed_exactly p n a (suc k) h g =
    let ds = those p (from (suc a) k) in
    ⊎_elim
    (λ e. at_head (p a) n a ds e (none_below p n (suc a) k (omega arith)) ∙ ap p e)
    (λ l. past_head (p a) n a ds (λ e. omega arith) ∙ listed_exactly p n (suc a) k l (omega arith))
    (eq-or-lt_of_le h)

-- the function follows the rule: a day that is listed is passed over
passed : (unworked : List ℕ) (day n : ℕ) → member (suc day) unworked ≡ true → WorkedAfter unworked day n → WorkedAfter unworked (suc day) n
passed unworked day n on w =
    ⊎_elim
    (λ same. absurd (true≢false (sym w.works ∙ ap (worked unworked) (sym same) ∙ ap not on)))
    (λ after. record { after = after; in_year = w.in_year; works = w.works })
    (eq-or-lt_of_le w.after)

passed_over : (unworked : List ℕ) (day n : ℕ) → member (suc day) unworked ≡ true → FirstLater unworked (suc day) n → FirstLater unworked day n
passed_over unworked day n on (found w least) =
    found (record { after = omega (arith, w.after); in_year = w.in_year; works = w.works }) (λ m v. least m (passed unworked day m on v))
passed_over unworked day n on (none z nobody) = none z (λ m v. nobody m (passed unworked day m on v))

follows_from : (unworked : List ℕ) (k day : ℕ) → year_days - day ≡ k → FirstLater unworked day (next_day unworked day)
follows_from unworked zero day h = none (none_next unworked day (omega arith)) (λ m w. omega (arith, w.after, w.in_year))
follows_from unworked (suc k) day h = go (member (suc day) unworked) refl (follows_from unworked k (suc day) (omega arith))
  where
    go : (t : Bool) → member (suc day) unworked ≡ t → FirstLater unworked (suc day) (next_day unworked (suc day)) → FirstLater unworked day (next_day unworked day)
    go true on rest = subst (FirstLater unworked day) (sym (listed_next unworked day (omega arith) on)) (passed_over unworked day (next_day unworked (suc day)) on rest)
    go false off rest =
        subst (FirstLater unworked day) (sym (unlisted_next unworked day (omega arith) off))
        (found (record { after = omega arith; in_year = omega arith; works = ap not off }) (λ m w. w.after))

follows : (unworked : List ℕ) (day : ℕ) → FirstLater unworked day (next_day unworked day)
follows unworked day = follows_from unworked (year_days - day) day refl

-- and of two numbers that follow it neither is the smaller
the_same : (unworked : List ℕ) (day n m : ℕ) → FirstLater unworked day n → FirstLater unworked day m → n ≡ m
the_same unworked day n m (found w least) (found v other) = omega (arith, least m v, other n w)
the_same unworked day n m (found w least) (none z nobody) = absurd (nobody n w)
the_same unworked day n m (none z nobody) (found w least) = absurd (nobody m w)
the_same unworked day n m (none z nobody) (none y neither) = z ∙ sym y

pub as_the_rule : AsTheRule
as_the_rule =
    record {
      follows = follows;
      entries = λ unworked day h g. subst (FirstLater unworked day) (sym (entry unworked day h g)) (follows unworked day);
      alone = λ unworked day n r. the_same unworked day n (next_day unworked day) r (follows unworked day);
    }
