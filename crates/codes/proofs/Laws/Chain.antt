-- Laws of a chain: a first part that applies ends it, one that does not leads on, an answer of none tells of every part, and chains join.
use mathlib.Core.Path.{◌≡◌, refl, ap}
use mathlib.Core.Bool.{Bool, true, false, not}
use Prim.Native.Nat.{ℕ, zero, suc, ◌<◌}
use native.Mathlib.Omega.{arith}
use borrow.Author.Tests.{not-false}
use Rattle.codes.specs.Chain.{◌when◌, ◌orelse◌}

-- the first part may be a chain itself
pub ends : (a rest : ℕ) → 0 < a → (a orelse rest) ≡ a
unfolding ◌orelse◌
ends zero rest h = absurd (omega arith)
ends (suc a) rest h = refl

pub goes_on : (a rest : ℕ) → a ≡ 0 → (a orelse rest) ≡ rest
unfolding ◌orelse◌
goes_on a rest e = rw e

-- or one test
pub applies : (n : ℕ) (test : Bool) (rest : ℕ) → 0 < n → test ≡ true → (n when test orelse rest) ≡ n
unfolding ◌when◌
applies n test rest h e = rw e (ends n rest h)

pub passes : (n : ℕ) (test : Bool) (rest : ℕ) → test ≡ false → (n when test orelse rest) ≡ rest
unfolding ◌when◌
passes n test rest e = rw e (goes_on 0 rest refl)

pub none_test : (n : ℕ) (test : Bool) → 0 < n → (n when test) ≡ 0 → test ≡ false
unfolding ◌when◌
none_test n true h e = absurd (omega arith)
none_test n false h e = refl

pub given_test : (n : ℕ) (test : Bool) → 0 < n → (n when test) ≡ n → test ≡ true
unfolding ◌when◌
given_test n true h e = refl
given_test n false h e = absurd (omega arith)

pub none_both : (a rest : ℕ) → (a orelse rest) ≡ 0 → (a ≡ 0) × (rest ≡ 0)
unfolding ◌orelse◌
none_both zero rest e = (refl, e)
none_both (suc a) rest e = absurd (omega arith)

-- so of one test and the rest: it does not hold, and the rest gives none
pub passed : (n : ℕ) (test : Bool) (rest : ℕ) → 0 < n → (n when test orelse rest) ≡ 0 → (test ≡ false) × (rest ≡ 0)
passed n test rest h e = let both = none_both (n when test) rest e in (none_test n test h both.0, both.1)

-- the same four of what a test denies, as most lines of an order are written
pub fails : (n : ℕ) (test : Bool) (rest : ℕ) → 0 < n → test ≡ false → (n when not test orelse rest) ≡ n
fails n test rest h e = applies n (not test) rest h (ap not e)

pub holds : (n : ℕ) (test : Bool) (rest : ℕ) → test ≡ true → (n when not test orelse rest) ≡ rest
holds n test rest e = passes n (not test) rest (ap not e)

pub none_held : (n : ℕ) (test : Bool) → 0 < n → (n when not test) ≡ 0 → test ≡ true
none_held n test h e = not-false test (none_test n (not test) h e)

pub held : (n : ℕ) (test : Bool) (rest : ℕ) → 0 < n → (n when not test orelse rest) ≡ 0 → (test ≡ true) × (rest ≡ 0)
held n test rest h e = let both = passed n (not test) rest h e in (not-false test both.0, both.1)

-- so of three
pub all_held : (l m n : ℕ) (a b c : Bool) → 0 < l → 0 < m → 0 < n → (l when not a orelse m when not b orelse n when not c) ≡ 0 → (a ≡ true) × (b ≡ true) × (c ≡ true)
all_held l m n a b c hl hm hn e =
    let first = held l a _ hl e in
    let second = held m b _ hm first.1 in
    (first.0, second.0, none_held n c hn second.1)

pub joins : (a b c : ℕ) → ((a orelse b) orelse c) ≡ (a orelse b orelse c)
unfolding ◌orelse◌
joins zero b c = refl
joins (suc a) b c = refl

pub last : (a : ℕ) → (a orelse 0) ≡ a
unfolding ◌orelse◌
last zero = refl
last (suc a) = refl

-- what follows a part that applies is not asked
pub rest_same : (a b c : ℕ) → (a ≡ 0 → b ≡ c) → (a orelse b) ≡ (a orelse c)
unfolding ◌orelse◌
rest_same zero b c h = h refl
rest_same (suc a) b c h = refl
