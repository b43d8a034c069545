-- Laws of words: how a search for a byte goes on, that a comparison goes on byte by byte, and that a line's next word stands between the
-- first byte that is no space and the space behind it.
use mathlib.Core.Path.{◌≡◌, refl, ap, sym, ◌∙◌}
use mathlib.Core.Bool.{Bool, true, false, ◌&&◌, cond}
use mathlib.Core.List.{List, [], ◌∷◌}
use Prim.Native.Nat.{ℕ, suc, ◌+◌, ◌-◌, ◌≤◌, ◌<◌}
use native.Mathlib.Omega.{arith}
use lib.Dec.{eqb, ltb}
use lib.ListN.{length, take, drop, drop_of_length-le}
use lib.Seq.{drop-drop}
use Rattle.std.proofs.Common.{length-drop, one-add}
use Rattle.packed.specs.Part.{part}
use borrow.Author.Tests.{eqb-true, eq-eqb, ltb-false}
use Rattle.packed.proofs.Laws.Told.{both}
use Rattle.std.specs.Prelude.{bytes_eq, Some, None}
use Rattle.std.specs.List.{position, position_or_len}
use Rattle.std.proofs.lemmas.List.Recursion.{is_position_or_len}
use Rattle.text.specs.Word.{equal_bytes, before, is_space, is_other, onto_first, runs, not_empty, words}

-- a search is std's, and so is a comparison
pub before_is : (p : ℕ → Bool) (l : List ℕ) → before p l ≡ position_or_len p l
unfolding before
before_is p l = is_position_or_len (before p) p refl (λ x xs. ap (λ (n : ℕ). cond (p x) 0 n) (sym (one-add (before p xs)))) l

before_most : (p : ℕ → Bool) (l : List ℕ) → before p l ≤ length l
unfolding before
before_most p [] = omega arith
before_most p (b ∷ bs) = go (p b) (before_most p bs)
  where
    go : (t : Bool) → before p bs ≤ length bs → cond t 0 (suc (before p bs)) ≤ length (b ∷ bs)
    go true h = omega arith
    go false h = omega arith

pub found_at : (p : ℕ → Bool) (l : List ℕ) (n : ℕ) → position p l ≡ Some n → n ≡ before p l
found_at p l n e = go (ltb (position_or_len p l) (length l)) e ∙ sym (before_is p l)
  where
    go : (b : Bool) → cond b (Some (position_or_len p l)) None ≡ Some n → n ≡ position_or_len p l
    go true e = cc
    go false e = absurd (let z : None ≡ Some n = e in cc)

pub found_none : (p : ℕ → Bool) (l : List ℕ) → position p l ≡ None → before p l ≡ length l
found_none p l e = go (ltb (position_or_len p l) (length l)) refl e
  where
    go : (b : Bool) → ltb (position_or_len p l) (length l) ≡ b → cond b (Some (position_or_len p l)) None ≡ None → before p l ≡ length l
    go true f e = absurd (let z : Some (position_or_len p l) ≡ None = e in cc)
    go false f e = omega (arith, before_is p l, before_most p l, ltb-false (position_or_len p l) (length l) f)

pub same_is : (a b : List ℕ) → bytes_eq a b ≡ equal_bytes a b
unfolding equal_bytes
same_is [] [] = refl
same_is [] (y ∷ b) = refl
same_is (x ∷ a) [] = refl
same_is (x ∷ a) (y ∷ b) = ap (λ (t : Bool). eqb x y && t) (same_is a b)

-- what it says: the runs are equal
pub same_then_equal : (a b : List ℕ) → equal_bytes a b ≡ true → a ≡ b
unfolding equal_bytes
same_then_equal [] [] e = refl
same_then_equal [] (y ∷ b) e = let z : ◌≡◌ {A = ℕ} 0 1 = cc in absurd (omega arith)
same_then_equal (x ∷ a) [] e = let z : ◌≡◌ {A = ℕ} 0 1 = cc in absurd (omega arith)
same_then_equal (x ∷ a) (y ∷ b) e =
    let told = both (eqb x y) (equal_bytes a b) e in
    λ t. eqb-true x y told.0 t ∷ same_then_equal a b told.1 t

pub equal_then_same : (a : List ℕ) → equal_bytes a a ≡ true
unfolding equal_bytes
equal_then_same [] = refl
equal_then_same (x ∷ a) = rw (eq-eqb x x refl) (equal_then_same a)

-- spaces before the first word do not matter
words_skip : (l : List ℕ) → words l ≡ words (drop (before is_other l) l)
unfolding before runs not_empty
words_skip [] = refl
words_skip (b ∷ bs) = go (is_space b) refl (words_skip bs)
  where
    go : (t : Bool) → is_space b ≡ t → words bs ≡ words (drop (before is_other bs) bs) → words (b ∷ bs) ≡ words (drop (before is_other (b ∷ bs)) (b ∷ bs))
    go true e on = rw e on
    go false e on = rw (e, e)

-- then the next byte is no space
skipped : (l : List ℕ) → before is_other (drop (before is_other l) l) ≡ 0
unfolding before
skipped [] = refl
skipped (b ∷ bs) = go (is_space b) refl (skipped bs)
  where
    go : (t : Bool) → is_space b ≡ t → before is_other (drop (before is_other bs) bs) ≡ 0 → before is_other (drop (before is_other (b ∷ bs)) (b ∷ bs)) ≡ 0
    go true e on = rw e on
    go false e on = rw (e, e)

-- what follows a run
behind : (ℕ → Bool) → List ℕ → List (List ℕ)
behind p [] = []
behind p (b ∷ bs) = runs p bs

runs_first : (p : ℕ → Bool) (l : List ℕ) → runs p l ≡ take (before p l) l ∷ behind p (drop (before p l) l)
unfolding before runs behind
runs_first p [] = refl
runs_first p (b ∷ bs) = go (p b) refl (runs_first p bs)
  where
    go : (t : Bool) → p b ≡ t → runs p bs ≡ take (before p bs) bs ∷ behind p (drop (before p bs) bs) → runs p (b ∷ bs) ≡ take (before p (b ∷ bs)) (b ∷ bs) ∷ behind p (drop (before p (b ∷ bs)) (b ∷ bs))
    go true e on = rw e
    go false e on = rw e (ap (onto_first b) on)

words_behind : (l : List ℕ) → not_empty (behind is_space (drop (before is_space l) l)) ≡ words (drop (before is_space l) l)
unfolding before runs behind not_empty
words_behind [] = refl
words_behind (b ∷ bs) = go (is_space b) refl (words_behind bs)
  where
    go : (t : Bool) → is_space b ≡ t → not_empty (behind is_space (drop (before is_space bs) bs)) ≡ words (drop (before is_space bs) bs) → not_empty (behind is_space (drop (before is_space (b ∷ bs)) (b ∷ bs))) ≡ words (drop (before is_space (b ∷ bs)) (b ∷ bs))
    go true e on = rw (e, e)
    go false e on = rw e on

-- a word that begins at once
words_here : (l : List ℕ) → 0 < length l → before is_other l ≡ 0 → words l ≡ take (before is_space l) l ∷ words (drop (before is_space l) l)
unfolding before runs not_empty
words_here [] h e = absurd (omega arith)
words_here (b ∷ bs) h e = go (is_space b) refl e
  where
    go : (t : Bool) → is_space b ≡ t → before is_other (b ∷ bs) ≡ 0 → words (b ∷ bs) ≡ take (before is_space (b ∷ bs)) (b ∷ bs) ∷ words (drop (before is_space (b ∷ bs)) (b ∷ bs))
    go true e z = absurd (omega (arith, rw e at z))
    go false e z =
        rw e
        (ap (λ (rs : List (List ℕ)). not_empty (onto_first b rs)) (runs_first is_space bs) ∙ ap (λ (ws : List (List ℕ)). (b ∷ take (before is_space bs) bs) ∷ ws) (words_behind bs))

-- the next word stands from the first byte that is no space to the space behind it
pub next_word : (line : List ℕ) (from to : ℕ) → from ≡ before is_other line → from < length line → to ≡ from + before is_space (drop from line) → words line ≡ part from (to - from) line ∷ words (drop to line)
next_word line from to begins h ends =
    let rest : drop (before is_other line) line ≡ drop from line = ap (λ (k : ℕ). drop k line) (sym begins) in
    let size : before is_space (drop from line) ≡ to - from = omega arith in
    let end : drop (before is_space (drop from line)) (drop from line) ≡ drop to line = drop-drop (before is_space (drop from line)) from line ∙ ap (λ (k : ℕ). drop k line) (sym ends) in
    words_skip line
    ∙ ap words rest
    ∙ words_here (drop from line) (omega (arith, length-drop from line)) (ap (before is_other) (sym rest) ∙ skipped line)
    ∙ (λ t. take (size t) (drop from line) ∷ words (end t))

-- there is none where nothing but spaces stand
pub no_word : (line : List ℕ) → length line ≤ before is_other line → words line ≡ []
unfolding runs not_empty
no_word line h = words_skip line ∙ ap words (drop_of_length-le line {i = before is_other line} h)
