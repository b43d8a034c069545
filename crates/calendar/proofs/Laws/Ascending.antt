-- Laws of a good list: how it is tested from the front, and what it tells of a day that lies between two neighbours. A list that begins with
-- a number below all its days, as 0 is, is read from there.
use mathlib.Core.Path.{◌≡◌, refl, ap, sym, ◌∙◌}
use mathlib.Core.Bool.{Bool, true, false, ◌&&◌, or-true, and-false}
use mathlib.Core.List.{List, [], ◌∷◌}
use Prim.Native.Nat.{ℕ, zero, suc, ◌≤◌, ◌<◌}
use native.Mathlib.Nat.{not-suc-le-zero}
use native.Mathlib.Omega.{arith}
use borrow.Author.Tests.{ltb-true, lt-ltb, le-ltb, le-leb, lt-leb, leb-true, eq-eqb, ne_eqb}
use lib.Dec.{ltb, leb, eqb}
use lib.ListN.{length, drop, get_or, drop_of_length-le}
use lib.Seq.{drop-cons}
use Rattle.codes.specs.Field.{between}
use Rattle.packed.specs.Every.{every, member}
use Rattle.packed.proofs.Laws.Every.{every_cons, every_then}
use Rattle.packed.proofs.Laws.Told.{both}
use Rattle.calendar.specs.Rule.{year_days, entry_of}
use Rattle.calendar.specs.Generator.{ascending, good_list}

-- the rest of a list is good behind a day
unfoldable pub good_behind : (last : ℕ) → List ℕ → Bool
good_behind last ds = ascending (last ∷ ds) && every (between 1 year_days) ds

-- which for the whole list is to be good
pub behind_nothing : (ds : List ℕ) → good_behind 0 ds ≡ good_list ds
unfolding good_behind good_list ascending every
behind_nothing [] = refl
behind_nothing (zero ∷ ds) = sym (and-false (ascending (zero ∷ ds)))
behind_nothing (suc d ∷ ds) = rw (lt-ltb 0 (suc d) (omega arith))

pub none_behind : (last : ℕ) (ds : List ℕ) (i : ℕ) → length ds ≤ i → good_behind last (drop i ds) ≡ true
unfolding good_behind ascending every
none_behind last ds i h = rw (drop_of_length-le ds {i = i} h)

-- a day of it, at its place: not above the one before, past the year, or neither
not_above : (last d : ℕ) (ds : List ℕ) → d ≤ last → good_behind last (d ∷ ds) ≡ false
unfolding good_behind ascending
not_above last d ds h = rw (le-ltb last d h)

past_year : (last d : ℕ) (ds : List ℕ) → year_days < d → good_behind last (d ∷ ds) ≡ false
unfolding good_behind every
past_year last d ds h = rw (lt-leb d year_days h, and-false (leb 1 d), and-false (ascending (last ∷ d ∷ ds)))

good_day : (last d : ℕ) (ds : List ℕ) → last < d → d ≤ year_days → good_behind last (d ∷ ds) ≡ good_behind d ds
unfolding good_behind ascending every
good_day last d ds h k = rw (lt-ltb last d h, le-leb 1 d (omega arith), le-leb d year_days k)

module _ (last : ℕ) (ds : List ℕ) (i : ℕ) (h : i < length ds) where
  at_place : good_behind last (drop i ds) ≡ good_behind last (get_or ds i 0 ∷ drop (suc i) ds)
  at_place = ap (good_behind last) (drop-cons ds i 0 h)

  pub not_above_at : get_or ds i 0 ≤ last → good_behind last (drop i ds) ≡ false
  not_above_at k = at_place ∙ not_above last (get_or ds i 0) (drop (suc i) ds) k

  pub past_year_at : year_days < get_or ds i 0 → good_behind last (drop i ds) ≡ false
  past_year_at k = at_place ∙ past_year last (get_or ds i 0) (drop (suc i) ds) k

  pub good_day_at : last < get_or ds i 0 → get_or ds i 0 ≤ year_days → good_behind last (drop i ds) ≡ good_behind (get_or ds i 0) (drop (suc i) ds)
  good_day_at k w = at_place ∙ good_day last (get_or ds i 0) (drop (suc i) ds) k w

-- the days of a good list ascend from 0
pub ascends : (ds : List ℕ) → good_list ds ≡ true → ascending (0 ∷ ds) ≡ true
unfolding good_behind
ascends ds e = (both (ascending (0 ∷ ds)) (every (between 1 year_days) ds) (behind_nothing ds ∙ e)).0

-- where no number of a list is above a bound, no place has one that is
pub at_most : (most : ℕ) (ns : List ℕ) (k : ℕ) → every (λ (n : ℕ). leb n most) ns ≡ true → get_or ns k 0 ≤ most
at_most most [] k e = omega arith
at_most most (n ∷ ns) zero e = leb-true n most (every_cons (λ (n : ℕ). leb n most) n ns e).0
at_most most (n ∷ ns) (suc k) e = at_most most ns k (every_cons (λ (n : ℕ). leb n most) n ns e).1

-- and all days of a good list lie within the year
pub all_within : (ds : List ℕ) → good_list ds ≡ true → (k : ℕ) → entry_of ds k ≤ year_days
unfolding good_list
all_within ds e zero = omega arith
all_within ds e (suc k) =
    let days = (both (ascending ds) (every (between 1 year_days) ds) e).1 in
    at_most year_days ds k (every_then (between 1 year_days) (λ (n : ℕ). leb n year_days) (λ n t. (both (leb 1 n) (leb n year_days) t).1) ds days)

rest : (a b : ℕ) (ds : List ℕ) → ascending (a ∷ b ∷ ds) ≡ true → (a < b) × (ascending (b ∷ ds) ≡ true)
unfolding ascending
rest a b ds e = let t = both (ltb a b) (ascending (b ∷ ds)) e in (ltb-true a b t.0, t.1)

-- each is above the one before it
pub above : (a : ℕ) (ds : List ℕ) (k : ℕ) → ascending (a ∷ ds) ≡ true → k < length ds → get_or (a ∷ ds) k 0 < get_or ds k 0
above a (d ∷ ds) zero e h = (rest a d ds e).0
above a (d ∷ ds) (suc k) e h = above d ds k (rest a d ds e).1 (omega arith)
above a [] k e h = omega arith

-- and none is below the first
risen : (a : ℕ) (ds : List ℕ) (k : ℕ) → ascending (a ∷ ds) ≡ true → k ≤ length ds → a ≤ get_or (a ∷ ds) k 0
risen a ds zero e h = omega arith
risen a (d ∷ ds) (suc k) e h = omega (arith, (rest a d ds e).0, risen d ds k (rest a d ds e).1 (omega arith))
risen a [] (suc k) e h = omega arith

-- a day at a place of the list is in it
pub listed : (ds : List ℕ) (k : ℕ) → k < length ds → member (get_or ds k 0) ds ≡ true
unfolding member
listed (d ∷ ds) zero h = rw (eq-eqb d d refl)
listed (d ∷ ds) (suc k) h = rw (listed ds k (omega arith), or-true (eqb (get_or ds k 0) d))
listed [] k h = absurd (not-suc-le-zero h)

-- a day below the first is not, nor is one between a place and the next
below : (a : ℕ) (ds : List ℕ) (day : ℕ) → ascending (a ∷ ds) ≡ true → day ≤ a → member day ds ≡ false
unfolding member
below a [] day e h = refl
below a (d ∷ ds) day e h =
    let t = rest a d ds e in
    rw (ne_eqb day d (omega (arith, t.0)), below d ds day t.1 (omega (arith, t.0)))

pub between_two : (a : ℕ) (ds : List ℕ) (k day : ℕ) → ascending (a ∷ ds) ≡ true → k ≤ length ds → get_or (a ∷ ds) k 0 < day → (k < length ds → day < get_or ds k 0)
    → member day ds ≡ false
unfolding member
between_two a [] k day e h under over = refl
between_two a (d ∷ ds) zero day e h under over =
    rw (ne_eqb day d (omega (arith, over (omega arith))), below d ds day (rest a d ds e).1 (omega (arith, over (omega arith))))
between_two a (d ∷ ds) (suc k) day e h under over =
    let t = rest a d ds e in
    rw (ne_eqb day d (omega (arith, risen d ds k t.1 (omega arith))), between_two d ds k day t.1 (omega arith) under (λ g. over (omega arith)))
