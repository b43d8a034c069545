-- Laws of a test at every element, and of one at any element; what the library answers is what the definitions say.
use mathlib.Core.Path.{◌≡◌, refl, ap, sym, ◌∙◌}
use mathlib.Core.Bool.{Bool, true, false, ◌&&◌, ◌||◌, and_assoc, and-true, and-eq-true_iff}
use mathlib.Core.List.{List, [], ◌∷◌, ◌++◌, map}
use Prim.Native.Nat.{ℕ, suc, ◌+◌, ◌≤◌, ◌<◌}
use native.Mathlib.Numerals.{add-one}
use lib.ListN.{length, get_or, drop, drop_of_length-le}
use lib.Seq.{drop-cons}
use Rattle.std.specs.List.{list_all, list_any}
use Rattle.packed.specs.Every.{every, any_of}

module _ {ℓ} {A : Type ℓ} (p : A → Bool) where
  pub every_append : (xs ys : List A) → every p (xs ++ ys) ≡ every p xs && every p ys
  unfolding every
  every_append [] ys = refl
  every_append (x ∷ xs) ys = ap (λ (t : Bool). p x && t) (every_append xs ys) ∙ sym (and_assoc (p x) (every p xs) (every p ys))

  pub every_cons : (x : A) (xs : List A) → every p (x ∷ xs) ≡ true → (p x ≡ true) × (every p xs ≡ true)
  unfolding every
  every_cons x xs e = (and-eq-true_iff (p x) (every p xs)).0 e

  -- a reading that has found ok so far: nothing left, and one element more
  pub every_none : (ok : Bool) → ok && every p [] ≡ ok
  unfolding every
  every_none ok = and-true ok

  pub every_step : (ok : Bool) (x : A) (xs : List A) → ok && p x && every p xs ≡ ok && every p (x ∷ xs)
  unfolding every
  every_step ok x xs = and_assoc ok (p x) (every p xs)

  -- so of a reading that has come to place i
  pub every_more : (xs : List A) (i : ℕ) (d : A) (ok : Bool) → i < length xs → ok && p (get_or xs i d) && every p (drop (i + 1) xs) ≡ ok && every p (drop i xs)
  every_more xs i d ok h =
      rw add-one (every_step ok (get_or xs i d) (drop (suc i) xs) ∙ ap (λ (l : List A). ok && every p l) (sym (drop-cons xs i d h)))

  pub every_end : (xs : List A) (i : ℕ) (ok : Bool) → length xs ≤ i → ok && every p (drop i xs) ≡ ok
  every_end xs i ok h = ap (λ (l : List A). ok && every p l) (drop_of_length-le xs {i = i} h) ∙ every_none ok

-- two tests at every element are the one at every element and the other
regroup : (a b c d : Bool) → a && b && (c && d) ≡ a && c && (b && d)
regroup true true c d = refl
regroup true false true d = refl
regroup true false false d = refl
regroup false b c d = refl

pub every_both : {A : Type 0} (p q : A → Bool) (xs : List A) → every (λ (x : A). p x && q x) xs ≡ every p xs && every q xs
unfolding every
every_both p q [] = refl
every_both p q (x ∷ xs) = ap (λ (t : Bool). p x && q x && t) (every_both p q xs) ∙ regroup (p x) (q x) (every p xs) (every q xs)

-- a test of what is made of each element
pub every_map : {A B : Type 0} (p : B → Bool) (f : A → B) (xs : List A) → every p (map f xs) ≡ every (λ (x : A). p (f x)) xs
unfolding every
every_map p f [] = refl
every_map p f (x ∷ xs) = ap (λ (t : Bool). p (f x) && t) (every_map p f xs)

-- a test that follows from another
pub every_then : {A : Type 0} (p q : A → Bool) → ((x : A) → p x ≡ true → q x ≡ true) → (xs : List A) → every p xs ≡ true → every q xs ≡ true
unfolding every
every_then p q h [] e = refl
every_then p q h (x ∷ xs) e =
    let both = (and-eq-true_iff (p x) (every p xs)).0 e in
    rw (h x both.0, every_then p q h xs both.1)

-- a test that always holds
pub every_always : {A : Type 0} (p : A → Bool) → ((x : A) → p x ≡ true) → (xs : List A) → every p xs ≡ true
unfolding every
every_always p h [] = refl
every_always p h (x ∷ xs) = rw (h x, every_always p h xs)

-- the library's tests over a list
pub all_every : {A : Type 0} (p : A → Bool) (xs : List A) → list_all p xs ≡ every p xs
unfolding every
all_every p [] = refl
all_every p (x ∷ xs) = ap (λ (t : Bool). p x && t) (all_every p xs)

pub any_any : {A : Type 0} (p : A → Bool) (xs : List A) → list_any p xs ≡ any_of p xs
unfolding any_of
any_any p [] = refl
any_any p (x ∷ xs) = ap (λ (t : Bool). p x || t) (any_any p xs)
