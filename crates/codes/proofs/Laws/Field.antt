-- Laws of a table of fields: its digits and its values are tested apart, and digits of adjoining fields are digits of one run.
use mathlib.Core.Path.{◌≡◌, refl, ap, sym, ◌∙◌}
use mathlib.Core.Bool.{Bool, true, false, ◌&&◌, cond, and_assoc}
use mathlib.Core.List.{List, [], ◌∷◌}
use Prim.Native.Nat.{ℕ, ◌+◌}
use lib.Dec.{eqb}
use Rattle.packed.specs.Part.{part}
use Rattle.packed.specs.Every.{every}
use Rattle.packed.specs.Digits.{are_digits}
use Rattle.codes.specs.Field.{Field, field_digits, field_value, earning, table_good}
use Rattle.codes.specs.Inner.Values.{table_values}
use Rattle.packed.proofs.Laws.Every.{every_both}
use Rattle.packed.proofs.Laws.Digits.{digits_split}

-- all of the rows of a code are digits
abbrev pub table_digits : (first code : ℕ) → List Field → List ℕ → Bool
table_digits first code fields s = every (field_digits first s) (earning code fields)

pub table_split : (first code : ℕ) (fields : List Field) (s : List ℕ) → table_good first code fields s ≡ table_digits first code fields s && table_values first code fields s
table_split first code fields s = every_both (field_digits first s) (field_value first s) (earning code fields)

-- digits at runs of some widths, one behind the other from place at on, and then the rest
unfoldable pub digit_runs : (at : ℕ) (widths s : List ℕ) (rest : Bool) → Bool
digit_runs at [] s rest = rest
digit_runs at (w ∷ ws) s rest = are_digits (part at w s) && digit_runs (at + w) ws s rest

unfoldable pub total : List ℕ → ℕ
total [] = 0
total (w ∷ ws) = w + total ws

pub runs_join : (at : ℕ) (ws s : List ℕ) (rest : Bool) → digit_runs at ws s rest ≡ are_digits (part at (total ws) s) && rest
unfolding digit_runs every total
runs_join at [] s rest = refl
runs_join at (w ∷ ws) s rest =
    ap (λ (t : Bool). are_digits (part at w s) && t) (runs_join (at + w) ws s rest)
    ∙ sym (and_assoc (are_digits (part at w s)) (are_digits (part (at + w) (total ws) s)) rest)
    ∙ ap (λ (t : Bool). t && rest) (sym (digits_split at w (total ws) s))

-- whether each field begins where the one before it ends, and where the last one ends or the first gap is
unfoldable pub adjoining : (position : ℕ) → List Field → Bool × ℕ
adjoining position [] = (true, position)
adjoining position (f ∷ fs) = cond (eqb f.position position) (adjoining (position + f.width) fs) (false, position)
