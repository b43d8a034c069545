-- Laws of a search by number: what is found has the number; and a search that has come to place i of a table ends at the number's own thing,
-- goes on past another, and finds nothing at the end.
use mathlib.Core.Path.{◌≡◌, refl, sym}
use mathlib.Core.Bool.{Bool, true, false, cond}
use mathlib.Core.List.{List, [], ◌∷◌}
use Prim.Native.Nat.{ℕ, ◌+◌, ◌<◌}
use native.Mathlib.Numerals.{add-one}
use lib.Dec.{eqb}
use lib.ListN.{length, get_or, drop}
use lib.Seq.{drop-cons, drop-length}
use borrow.Author.Tests.{eq-eqb, ne_eqb, eqb-true}
use Rattle.packed.specs.Every.{every}
use Rattle.packed.proofs.Laws.Every.{every_cons}
use Rattle.codes.specs.Numbered.{numbered}

-- what holds of none, and of each thing that has the number and passes a test, holds of what is found among things that all pass it
module _ {A B : Type 0} (number : A → ℕ) (found : A → B) (none : B) (n : ℕ) (test : A → Bool) (P : B → Type 0) where
  one_more : (x : A) (rest : B) → (n ≡ number x → P (found x)) → P rest → (t : Bool) → eqb n (number x) ≡ t → P (cond t (found x) rest)
  one_more x rest h z true e = h (eqb-true n (number x) e)
  one_more x rest h z false e = z

  pub found_told : P none → ((x : A) → n ≡ number x → test x ≡ true → P (found x)) → (xs : List A) → every test xs ≡ true → P (numbered number found none xs n)
  unfolding numbered
  found_told z h [] p = z
  found_told z h (x ∷ xs) p =
      let both = every_cons test x xs p in
      one_more x (numbered number found none xs n) (λ (e : n ≡ number x). h x e both.0) (found_told z h xs both.1) (eqb n (number x)) refl

module _ {A B : Type 0} (number : A → ℕ) (found : A → B) (none : B) (xs : List A) (n : ℕ) where
  pub found_at : (i : ℕ) (d : A) → i < length xs → number (get_or xs i d) ≡ n → numbered number found none (drop i xs) n ≡ found (get_or xs i d)
  unfolding numbered
  found_at i d h e = rw (drop-cons xs i d h, eq-eqb n (number (get_or xs i d)) (sym e))

  pub passed_at : (i : ℕ) (d : A) → i < length xs → (number (get_or xs i d) ≡ n → ⊥) → numbered number found none (drop i xs) n ≡ numbered number found none (drop (i + 1) xs) n
  unfolding numbered
  passed_at i d h other = rw (drop-cons xs i d h, ne_eqb n (number (get_or xs i d)) (λ e. other (sym e)), add-one)

  pub none_at : (i : ℕ) → i ≡ length xs → numbered number found none (drop i xs) n ≡ none
  unfolding numbered
  none_at i e = rw (e, drop-length)
