-- Laws of the rows of a tariff: how they are cut from its numbers, what a search finds, and whether all are good.
use mathlib.Core.Path.{◌≡◌, refl, ap, sym, ◌∙◌}
use mathlib.Core.Bool.{Bool, true, false, ◌&&◌, ◌||◌, cond, and-false}
use mathlib.Core.List.{List, [], ◌∷◌, map}
use Prim.Native.Nat.{ℕ, ◌+◌, ◌*◌, ◌/◌, ◌%◌, ◌≤◌, ◌<◌}
use native.Mathlib.Numerals.{add-one}
use native.Mathlib.Omega.{arith}
use lib.Dec.{eqb, leb, lit<}
use lib.ListN.{length, drop, get_or, length-map, drop_of_length-le}
use lib.Seq.{drop-cons}
use borrow.Author.Tests.{eq-eqb, ne_eqb, le-leb, lt-leb, eqb-true}
use Rattle.std.specs.Simd.{first_chunks}
use Rattle.std.specs.Prelude.{Option, Some, None, is_some, option_map}
use Rattle.packed.specs.Every.{every, member, none_twice}
use Rattle.packed.specs.Pieces.{cut, pieces}
use Rattle.packed.proofs.Laws.Member.{eqb_sym}
use Rattle.packed.proofs.Laws.Every.{every_cons}
use Rattle.packed.proofs.Laws.Told.{both, three}
use Rattle.packed.proofs.Laws.Pieces.{chunks_pieces, pieces_count}
use Rattle.tariff.specs.declared.row.Row.{Row}
use Rattle.tariff.specs.declared.search.Rule.{Rule}
use Rattle.tariff.specs.Tariff.{most_keys, row_numbers, row_in, rows_of, whole_rows, row_good, keys_of, good_tariff}
use Rattle.tariff.specs.Commission.{searched, rule_of}

-- the rows, each an array of its numbers
pub chunk_rows : (ns : List ℕ) → length ns % row_numbers ≡ 0 → map row_in (first_chunks row_numbers (length ns / row_numbers) ns) ≡ rows_of ns
unfolding rows_of
chunk_rows ns whole =
    ap (map row_in) (chunks_pieces row_numbers (lit< tt) (length ns / row_numbers) ns (omega arith))

-- a search finds a key that is among the keys, and no other
found_key : (rows : List Row) (key : ℕ) → is_some (searched rows key) ≡ member key (keys_of rows)
unfolding member
found_key [] key = refl
found_key (r ∷ rows) key = rw (eqb_sym key r.key) (one_more (eqb r.key key) (found_key rows key))
  where
    one_more : (t : Bool) → is_some (searched rows key) ≡ member key (keys_of rows) → is_some (cond t (Some r) (searched rows key)) ≡ t || member key (keys_of rows)
    one_more true e = refl
    one_more false e = e

-- no key of some rows is there twice, and each row is good
abbrev pub all_good : List Row → Bool
all_good rows = none_twice (keys_of rows) && every row_good rows

-- at a place: the row there is not good, its key comes again, or the rows behind it decide
module _ (rows : List (List ℕ)) (place : ℕ) (h : place < length rows) where
  abbrev row : Row
  row = row_in (get_or rows place [])

  abbrev behind : List Row
  behind = map row_in (drop (place + 1) rows)

  row_and_rest : map row_in (drop place rows) ≡ row ∷ behind
  row_and_rest = rw add-one (ap (map row_in) (drop-cons rows place [] h))

  pub bad_row : row_good row ≡ false → all_good (map row_in (drop place rows)) ≡ false
  unfolding every
  bad_row e = ap all_good row_and_rest ∙ rw (e, and-false (none_twice (keys_of (row ∷ behind))))

  pub key_twice : true ≡ is_some (searched behind row.key) → all_good (map row_in (drop place rows)) ≡ false
  unfolding none_twice
  key_twice e = ap all_good row_and_rest ∙ rw (← found_key behind row.key, ← e)

  pub rest_decides : row_good row ≡ true → false ≡ is_some (searched behind row.key) → all_good (map row_in (drop place rows)) ≡ all_good behind
  unfolding none_twice every
  rest_decides e once = ap all_good row_and_rest ∙ rw (← found_key behind row.key, ← once, e)

pub no_rows : (rows : List (List ℕ)) (place : ℕ) → length rows ≤ place → true ≡ all_good (map row_in (drop place rows))
unfolding none_twice every
no_rows rows place h = ap (λ (rest : List (List ℕ)). all_good (map row_in rest)) (sym (drop_of_length-le rows {i = place} h))

rows_count : (ns : List ℕ) → leb (length (rows_of ns)) most_keys ≡ leb (length ns) (most_keys * row_numbers)
unfolding rows_of
rows_count ns = ap (λ (n : ℕ). leb n most_keys) (length-map (pieces row_numbers ns) row_in) ∙ pieces_count row_numbers (lit< tt) most_keys ns

pub rows_decide : (ns : List ℕ) → length ns % row_numbers ≡ 0 → length ns ≤ most_keys * row_numbers → all_good (rows_of ns) ≡ good_tariff ns
unfolding good_tariff
rows_decide ns whole few = rw (eq-eqb (length ns % row_numbers) 0 whole, rows_count ns, le-leb (length ns) (most_keys * row_numbers) few)

-- what 42 is given for before a row is read
pub cut_row : (ns : List ℕ) → (length ns % row_numbers ≡ 0 → ⊥) → good_tariff ns ≡ false
unfolding good_tariff
cut_row ns cut = rw (ne_eqb (length ns % row_numbers) 0 cut)

pub many_keys : (ns : List ℕ) → most_keys * row_numbers < length ns → good_tariff ns ≡ false
unfolding good_tariff
many_keys ns many = rw (rows_count ns, lt-leb (length ns) (most_keys * row_numbers) many, and-false (whole_rows ns))

-- what a good tariff is known by: its rows are whole, and each is good
told : (ns : List ℕ) → good_tariff ns ≡ true → (length ns % row_numbers ≡ 0) × (every row_good (rows_of ns) ≡ true)
unfolding good_tariff
told ns e =
    let first = both (whole_rows ns && leb (length (rows_of ns)) most_keys && none_twice (keys_of (rows_of ns))) (every row_good (rows_of ns)) e in
    let whole = three (whole_rows ns) (leb (length (rows_of ns)) most_keys) (none_twice (keys_of (rows_of ns))) first.0 in
    (eqb-true (length ns % row_numbers) 0 whole.0, first.1)

pub each_good : (ns : List ℕ) → good_tariff ns ≡ true → every row_good (rows_of ns) ≡ true
each_good ns e = (told ns e).1

-- what holds of the typed commission where the key is 0, of an unknown key and of each good row holds of what good rows say of a key
module _ (key : ℕ) (P : Option Rule → Type 0) (typed : key ≡ 0 → P (Some Rule.Typed)) (none : P None) (row : (r : Row) → row_good r ≡ true → P (Some (Rule.ByRow r))) where
  by_search : (rows : List Row) → every row_good rows ≡ true → P (option_map Rule.ByRow (searched rows key))
  by_search [] good = none
  by_search (r ∷ rows) good = let first = every_cons row_good r rows good in go (eqb r.key key) first.0 (by_search rows first.1)
    where
      go : (t : Bool) → row_good r ≡ true → P (option_map Rule.ByRow (searched rows key)) → P (option_map Rule.ByRow (cond t (Some r) (searched rows key)))
      go true g rest = row r g
      go false g rest = rest

  pub rule_told : (rows : List Row) → every row_good rows ≡ true → P (rule_of rows key)
  unfolding rule_of
  rule_told rows good = go (eqb key 0) refl
    where
      go : (t : Bool) → eqb key 0 ≡ t → P (cond t (Some Rule.Typed) (option_map Rule.ByRow (searched rows key)))
      go true e = typed (eqb-true key 0 e)
      go false e = by_search rows good
