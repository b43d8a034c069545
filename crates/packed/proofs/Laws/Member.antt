-- Laws of numbers in a list: in two lists end to end, above all of some, and a number more where none is there twice.
use mathlib.Core.Path.{◌≡◌, refl, ap, sym, ◌∙◌}
use mathlib.Core.Bool.{Bool, true, false, not, ◌&&◌, ◌||◌, or_assoc, false≢true}
use mathlib.Core.List.{List, [], ◌∷◌, ◌++◌}
use Prim.Native.Nat.{ℕ, ◌≤◌, ◌<◌}
use native.Mathlib.Omega.{arith}
use lib.Dec.{eqb, leb}
use borrow.Author.Tests.{leb-true, le-leb, ne_eqb, eq-eqb, eqb-true, eqb-false}
use Rattle.std.specs.List.{list_any}
use Rattle.packed.specs.Every.{every, member, none_twice, none_above}
use Rattle.packed.proofs.Laws.Every.{every_cons, every_then}

pub eqb_sym : (a b : ℕ) → eqb a b ≡ eqb b a
eqb_sym a b = go (eqb b a) refl
  where
    go : (t : Bool) → eqb b a ≡ t → eqb a b ≡ t
    go true e = eq-eqb a b (sym (eqb-true b a e))
    go false e = ne_eqb a b (λ (h : a ≡ b). eqb-false b a e (sym h))

pub neither : (a b : Bool) → a || b ≡ false → (a ≡ false) × (b ≡ false)
neither true b e = absurd (false≢true (sym e))
neither false b e = (refl, e)

pub member_append : (n : ℕ) (xs ys : List ℕ) → member n (xs ++ ys) ≡ member n xs || member n ys
unfolding member
member_append n [] ys = refl
member_append n (x ∷ xs) ys = ap (λ (t : Bool). eqb n x || t) (member_append n xs ys) ∙ sym (or_assoc (eqb n x) (member n xs) (member n ys))

-- a number above all of some is none of them
pub member_above : (largest k : ℕ) (ns : List ℕ) → none_above largest ns ≡ true → largest < k → member k ns ≡ false
unfolding every member
member_above largest k [] e h = refl
member_above largest k (n ∷ ns) e h =
    let first = every_cons (λ (x : ℕ). leb x largest) n ns e in
    let least = leb-true n largest first.0 in
    let other : k ≡ n → ⊥ = λ (same : k ≡ n). absurd (omega arith) in
    rw (ne_eqb k n other, member_above largest k ns first.1 h)

-- and what is above them too
pub above_more : (a b : ℕ) (ns : List ℕ) → a ≤ b → none_above a ns ≡ true → none_above b ns ≡ true
above_more a b ns h e =
    every_then (λ (n : ℕ). leb n a) (λ (n : ℕ). leb n b) (λ (n : ℕ) (l : leb n a ≡ true). le-leb n b (omega (arith, leb-true n a l))) ns e

-- a number more, last
regroup : (m e t l : Bool) → not (m || (e || false)) && (t && not l) ≡ not m && t && not (e || l)
regroup true e t l = refl
regroup false true true l = refl
regroup false true false l = refl
regroup false false t l = refl

pub none_twice_last : (ns : List ℕ) (k : ℕ) → none_twice (ns ++ k ∷ []) ≡ none_twice ns && not (member k ns)
unfolding none_twice member
none_twice_last [] k = refl
none_twice_last (n ∷ ns) k =
    (λ i. not (member_append n ns (k ∷ []) i) && none_twice_last ns k i)
    ∙ regroup (member n ns) (eqb n k) (none_twice ns) (member k ns)
    ∙ ap (λ (t : Bool). not (member n ns) && none_twice ns && not (t || member k ns)) (eqb_sym n k)

-- what the library answers of a number in a list
pub contains_member : (n : ℕ) (xs : List ℕ) → list_any (λ (x : ℕ). eqb x n) xs ≡ member n xs
unfolding member
contains_member n [] = refl
contains_member n (x ∷ xs) = λ i. eqb_sym x n i || contains_member n xs i
