-- Laws of a search: a number has a place exactly if it is there, and the first row that has it is found.
use mathlib.Core.Path.{◌≡◌, refl, ap, sym, ◌∙◌}
use mathlib.Core.Bool.{Bool, true, false, ◌||◌, cond}
use mathlib.Core.List.{List, [], ◌∷◌, map}
use Prim.Native.Nat.{ℕ, suc, ◌+◌}
use native.Mathlib.Omega.{arith}
use lib.Dec.{eqb, ltb, leb-zero, leb-suc-suc}
use lib.ListN.{length, length-map}
use Rattle.std.specs.Prelude.{Some, None, is_some}
use Rattle.std.specs.List.{position}
use Rattle.std.proofs.lemmas.List.Recursion.{is_position_or_len}
use Rattle.packed.specs.Every.{member}
use Rattle.lot_file.specs.declared.row.Row.{Row}
use Rattle.lot_file.specs.Good.{row_in, numbers_of}
use Rattle.lot_file.specs.Inner.Search.{place_of, place_found}

-- a number that is there has a place before the end
pub place_member : (number : ℕ) (ns : List ℕ) → ltb (place_of number ns) (length ns) ≡ member number ns
unfolding place_of member
place_member number [] = refl
place_member number (n ∷ ns) = go (eqb number n) (place_member number ns)
  where
    go : (t : Bool) → ltb (place_of number ns) (length ns) ≡ member number ns → ltb (cond t 0 (suc (place_of number ns))) (suc (length ns)) ≡ t || member number ns
    go true e = leb-suc-suc 0 (length ns) ∙ leb-zero (length ns)
    go false e = leb-suc-suc (suc (place_of number ns)) (length ns) ∙ e

-- what is found
pub some_found : (number : ℕ) (ns : List ℕ) → is_some (place_found number ns) ≡ member number ns
some_found number ns = go (member number ns)
  where
    go : (t : Bool) → is_some (cond t (Some (place_of number ns)) None) ≡ t
    go true = refl
    go false = refl

pub found_place : (number : ℕ) (ns : List ℕ) (place : ℕ) → place_found number ns ≡ Some place → place ≡ place_of number ns
found_place number ns place e = go (member number ns) e
  where
    go : (t : Bool) → cond t (Some (place_of number ns)) None ≡ Some place → place ≡ place_of number ns
    go true some = cc
    go false some = cc

pub position_place : (number : ℕ) (ts : List (List ℕ)) → position (λ (b : List ℕ). eqb number (row_in b).number) ts ≡ place_found number (numbers_of (map row_in ts))
unfolding place_of
position_place number ts =
    let has = λ (b : List ℕ). eqb number (row_in b).number in
    let numbers = λ (l : List (List ℕ)). numbers_of (map row_in l) in
    let step : (b : List ℕ) (l : List (List ℕ)) → place_of number (numbers (b ∷ l)) ≡ cond (has b) 0 (1 + place_of number (numbers l)) =
    λ b l. ap (λ (m : ℕ). cond (eqb number (row_in b).number) 0 m) (omega arith) in
    let same = sym (is_position_or_len (λ (l : List (List ℕ)). place_of number (numbers l)) has refl step ts) in
    let count = sym (length-map (map row_in ts) (λ (r : Row). r.number) ∙ length-map ts row_in) in
    (λ i. cond (ltb (same i) (count i)) (Some (same i)) None) ∙ ap (λ (t : Bool). cond t (Some (place_of number (numbers ts))) None) (place_member number (numbers ts))
