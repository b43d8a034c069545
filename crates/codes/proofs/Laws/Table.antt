-- Laws of a table whose rows adjoin: what is written by it is read again, what is read is written again, and how long that is.
use mathlib.Core.Path.{◌≡◌, refl, ap, sym, ◌∙◌}
use mathlib.Core.Bool.{Bool, true, false, ◌&&◌, ◌||◌, cond, and-eq-true_iff, false≢true}
use mathlib.Core.List.{List, [], ◌∷◌, ◌++◌, append_assoc}
use Prim.Native.Nat.{ℕ, ◌+◌, ◌-◌, ◌^◌, ◌≤◌, ◌<◌}
use native.Mathlib.Omega.{arith}
use lib.Dec.{eqb, ltb}
use lib.ListN.{length, take, drop, length-append}
use lib.Seq.{take_at, drop_at, drop-drop}
use borrow.Author.Tests.{eqb-true, ltb-true}
use Rattle.packed.specs.Part.{part}
use Rattle.packed.specs.Every.{every}
use Rattle.packed.specs.Digits.{are_digits}
use Rattle.packed.specs.Number.{number}
use Rattle.packed.specs.Writing.{packed_bytes}
use Rattle.packed.proofs.Laws.Part.{part_split}
use Rattle.packed.proofs.Laws.Told.{three}
use Rattle.packed.proofs.Laws.Every.{every_cons}
use Rattle.packed.proofs.Laws.Writing.{packed_length, packed_digits, written_then_read as packed-then-read, read_then_put}
use Rattle.codes.specs.Field.{Field, field_digits, field_value, field_good, earning, table_numbers, table_takes, table_written}
use Rattle.codes.proofs.Laws.Field.{adjoining}

-- rows that begin at a position and end before another, without a gap
abbrev pub Adjoin : (from to : ℕ) → List Field → Type 0
Adjoin from to fields = adjoining from fields ≡ (true, to)

met : (t : Bool) (rest : Bool × ℕ) (from to : ℕ) → cond t rest (false, from) ≡ (true, to) → (t ≡ true) × (rest ≡ (true, to))
met true rest from to e = (refl, e)
met false rest from to e = absurd (false≢true (ap (λ (p : Bool × ℕ). p.0) e))

first_row : (from to : ℕ) (f : Field) (fs : List Field) → Adjoin from to (f ∷ fs) → (f.position ≡ from) × Adjoin (from + f.width) to fs
unfolding adjoining
first_row from to f fs h =
    let both = met (eqb f.position from) (adjoining (from + f.width) fs) from to h in
    (eqb-true f.position from both.0, both.1)

pub forward : (from to : ℕ) (fields : List Field) → Adjoin from to fields → from ≤ to
unfolding adjoining
forward from to [] h = let e : from ≡ to = ap (λ (p : Bool × ℕ). p.1) h in omega arith
forward from to (f ∷ fs) h = omega (arith, forward (from + f.width) to fs (first_row from to f fs h).1)

-- a number that its row takes
taken : (f : Field) (fs : List Field) (v : ℕ) (vs : List ℕ) → table_takes (f ∷ fs) (v ∷ vs) ≡ true → (v < 100 ^ f.width) × (f.rule v ≡ true) × (table_takes fs vs ≡ true)
unfolding table_takes
taken f fs v vs e =
    let all = three (ltb v (100 ^ f.width)) (f.rule v) (table_takes fs vs) e in
    (ltb-true v (100 ^ f.width) all.0, all.1, all.2)

-- they are as many bytes as there are positions
pub written_length : (from to : ℕ) (fields : List Field) (vs : List ℕ) → Adjoin from to fields → table_takes fields vs ≡ true → length (table_written fields vs) ≡ to - from
unfolding table_takes table_written adjoining
written_length from to [] [] h e = let same : from ≡ to = ap (λ (p : Bool × ℕ). p.1) h in omega arith
written_length from to [] (v ∷ vs) h e = absurd (false≢true e)
written_length from to (f ∷ fs) [] h e = absurd (false≢true e)
written_length from to (f ∷ fs) (v ∷ vs) h e =
    let rest = (first_row from to f fs h).1 in
    length-append (packed_bytes f.width v) (table_written fs vs)
    ∙ omega (arith, packed_length f.width v, written_length (from + f.width) to fs vs rest (taken f fs v vs e).2, forward (from + f.width) to fs rest)

module _ (first : ℕ) where
  -- a layout that has written numbers from a position on holds these numbers, and every row is good
  pub written_then_read : (from to : ℕ) (fields : List Field) (vs rest s : List ℕ) → first ≤ from → Adjoin from to fields → table_takes fields vs ≡ true → drop (from - first) s ≡ table_written fields vs ++ rest → (table_numbers first fields s ≡ vs) × (every (field_good first s) fields ≡ true)
  unfolding table_takes table_written every
  written_then_read from to [] [] rest s o h e d = (refl, refl)
  written_then_read from to [] (v ∷ vs) rest s o h e d = absurd (false≢true e)
  written_then_read from to (f ∷ fs) [] rest s o h e d = absurd (false≢true e)
  written_then_read from to (f ∷ fs) (v ∷ vs) rest s o h e d =
      let row = first_row from to f fs h in
      let takes = taken f fs v vs e in
      let bytes = packed_bytes f.width v in
      let all : drop (from - first) s ≡ bytes ++ (table_written fs vs ++ rest) = d ∙ append_assoc bytes (table_written fs vs) rest in
      let here : part (f.position - first) f.width s ≡ bytes = ap (λ (p : ℕ). part (p - first) f.width s) row.0 ∙ ap (take f.width) all ∙ take_at bytes (table_written fs vs ++ rest) f.width (packed_length f.width v) in
      let far : from + f.width - first ≡ from - first + f.width = omega arith in
      let next : drop (from + f.width - first) s ≡ table_written fs vs ++ rest = ap (λ (k : ℕ). drop k s) far ∙ sym (drop-drop f.width (from - first) s) ∙ ap (drop f.width) all ∙ drop_at bytes (table_written fs vs ++ rest) f.width (packed_length f.width v) in
      let after = written_then_read (from + f.width) to fs vs rest s (omega arith) row.1 takes.2 next in
      let value : number (part (f.position - first) f.width s) ≡ v = ap number here ∙ packed-then-read f.width v takes.0 in (
        (λ i. value i ∷ after.0 i),
        (λ i. (ap are_digits here ∙ packed_digits f.width v) i && (ap f.rule value ∙ takes.1) i && after.1 i),
      )

  -- good rows within a layout, written again, are its bytes
  pub read_then_written : (from to : ℕ) (fields : List Field) (s : List ℕ) → first ≤ from → Adjoin from to fields → to ≤ first + length s → every (field_good first s) fields ≡ true → table_written fields (table_numbers first fields s) ≡ part (from - first) (to - from) s
  unfolding table_written every adjoining
  read_then_written from to [] s o h l e =
      let same : from ≡ to = ap (λ (p : Bool × ℕ). p.1) h in
      let none : to - from ≡ 0 = omega arith in
      rw none
  read_then_written from to (f ∷ fs) s o h l e =
      let row = first_row from to f fs h in
      let ends = forward (from + f.width) to fs row.1 in
      let both = every_cons (field_good first s) f fs e in
      let digits = ((and-eq-true_iff (field_digits first s f) (field_value first s f)).0 both.0).0 in
      let at = from - first in
      let here : part (f.position - first) f.width s ≡ part at f.width s = ap (λ (p : ℕ). part (p - first) f.width s) row.0 in
      let head : packed_bytes f.width (number (part at f.width s)) ≡ part at f.width s = read_then_put s at f.width (omega arith) (ap are_digits (sym here) ∙ digits) in
      let tail = read_then_written (from + f.width) to fs s (omega arith) row.1 l both.1 in
      let next : from + f.width - first ≡ at + f.width = omega arith in
      let whole : to - from ≡ f.width + (to - (from + f.width)) = omega arith in
      (λ i. (ap (λ (b : List ℕ). packed_bytes f.width (number b)) here ∙ head) i ++ (tail ∙ ap (λ (k : ℕ). part k (to - (from + f.width)) s) next) i)
      ∙ sym (ap (λ (k : ℕ). part at k s) whole ∙ part_split at f.width (to - (from + f.width)) s)

-- a test of all rows, and the same test of the rows of one code
module _ (p : Field → Bool) where
  with_row : (t : Bool) (f : Field) (fs : List Field) → p f ≡ true → every p fs ≡ true → every p (cond t (f ∷ fs) fs) ≡ true
  unfolding every
  with_row true f fs h e = λ i. h i && e i
  with_row false f fs h e = e

  behind_row : (t : Bool) (f : Field) (fs : List Field) → every p (cond t (f ∷ fs) fs) ≡ true → every p fs ≡ true
  behind_row true f fs e = (every_cons p f fs e).1
  behind_row false f fs e = e

  the_row : (t u : Bool) (f : Field) (ones others : List Field) → t || u ≡ true → every p (cond t (f ∷ ones) ones) ≡ true → every p (cond u (f ∷ others) others) ≡ true → p f ≡ true
  the_row true u f ones others c ea eb = (every_cons p f ones ea).0
  the_row false true f ones others c ea eb = (every_cons p f others eb).0
  the_row false false f ones others c ea eb = absurd (false≢true c)

  pub rows_of : (code : ℕ) (fields : List Field) → every p fields ≡ true → every p (earning code fields) ≡ true
  unfolding every earning
  rows_of code [] e = refl
  rows_of code (f ∷ fs) e =
      let both = every_cons p f fs e in
      with_row (eqb f.code code) f (earning code fs) both.0 (rows_of code fs both.1)

  -- where a fault of any row earns one of two codes
  pub rows_all : (a b : ℕ) (fields : List Field) → every (λ (f : Field). eqb f.code a || eqb f.code b) fields ≡ true → every p (earning a fields) ≡ true → every p (earning b fields) ≡ true → every p fields ≡ true
  unfolding every earning
  rows_all a b [] c ea eb = refl
  rows_all a b (f ∷ fs) c ea eb =
      let t = eqb f.code a in
      let u = eqb f.code b in
      let codes = every_cons (λ (g : Field). eqb g.code a || eqb g.code b) f fs c in
      let rest = rows_all a b fs codes.1 (behind_row t f (earning a fs) ea) (behind_row u f (earning b fs) eb) in
      λ i. the_row t u f (earning a fs) (earning b fs) codes.0 ea eb i && rest i
