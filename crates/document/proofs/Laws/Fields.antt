-- Laws of the table of fields: it covers a document to the byte, and its digits lie in two runs of fields and two of amounts.
use mathlib.Core.Path.{◌≡◌, refl, ap, ◌∙◌}
use mathlib.Core.Bool.{Bool, true, ◌&&◌, and_assoc, and-true}
use mathlib.Core.List.{List, [], ◌∷◌}
use Prim.Native.Nat.{ℕ, ◌+◌}
use Rattle.packed.specs.Part.{part}
use Rattle.packed.specs.Every.{every}
use Rattle.packed.specs.Number.{number}
use Rattle.packed.specs.Digits.{are_digits}
use Rattle.codes.specs.Field.{exactly, earning}
use Rattle.codes.specs.Code.{code_number}
use Rattle.codes.specs.declared.code.Code.{Code}
use Rattle.codes.proofs.Laws.Field.{table_digits, table_split, digit_runs, total, runs_join, adjoining}
use Rattle.document.specs.Limits.{document_bytes}
use Rattle.document.specs.Rules.{identification, day_and_month, province, truncation, key_or_reason}
use Rattle.document.specs.Fields.{document_position, document_fields, fields_good, amounts_good}
use Rattle.document.specs.Inner.Digits.{field_digits, amount_digits}
use Rattle.document.specs.Inner.Values.{values_good}

listed : (a b c d e f g : Bool) → a && (b && (c && (d && (e && (f && (g && true)))))) ≡ a && b && c && d && e && f && g
listed a b c d e f g = simp (and_assoc, and-true)

module _ (operation receiving : ℕ) where
  -- no byte is left out and none belongs to two fields
  pub covered : adjoining document_position (document_fields operation receiving) ≡ (true, document_position + document_bytes)
  unfolding adjoining document_fields
  covered = refl

  field_digits_lem : (d : List ℕ) → table_digits document_position (code_number Code.WrongField) (document_fields operation receiving) d ≡ field_digits d
  unfolding document_fields earning every digit_runs total
  field_digits_lem d =
      runs_join 0 (5 ∷ 2 ∷ 4 ∷ 2 ∷ 2 ∷ 2 ∷ 1 ∷ 2 ∷ 1 ∷ 4 ∷ []) d (digit_runs 31 (2 ∷ 2 ∷ 5 ∷ 1 ∷ 2 ∷ []) d true)
      ∙ ap (λ (t : Bool). are_digits (part 0 25 d) && t) (runs_join 31 (2 ∷ 2 ∷ 5 ∷ 1 ∷ 2 ∷ []) d true ∙ and-true (are_digits (part 31 12 d)))

  pub fields_split : (d : List ℕ) → fields_good operation receiving d ≡ field_digits d && values_good operation receiving d
  unfolding fields_good values_good
  fields_split d =
      table_split document_position (code_number Code.WrongField) (document_fields operation receiving) d
      ∙ ap (λ (t : Bool). t && values_good operation receiving d) (field_digits_lem d)

  pub amounts_split : (d : List ℕ) → amounts_good operation receiving d ≡ amount_digits d
  unfolding amounts_good document_fields earning every
  amounts_split d =
      table_split document_position (code_number Code.WrongAmount) (document_fields operation receiving) d
      ∙ and-true (are_digits (part 25 6 d) && (are_digits (part 43 4 d) && true))
      ∙ ap (λ (t : Bool). are_digits (part 25 6 d) && t) (and-true (are_digits (part 43 4 d)))

  -- the rules of the table, one behind the other
  pub values_listed : (d : List ℕ) → values_good operation receiving d ≡ identification (number (part 5 2 d)) && day_and_month (number (part 11 2 d)) && province (number (part 17 1 d)) && exactly receiving (number (part 18 2 d)) && province (number (part 20 1 d)) && truncation (number (part 40 1 d)) && key_or_reason operation (number (part 41 2 d))
  unfolding values_good document_fields earning every
  values_listed d =
      listed
      (identification (number (part 5 2 d)))
      (day_and_month (number (part 11 2 d)))
      (province (number (part 17 1 d)))
      (exactly receiving (number (part 18 2 d)))
      (province (number (part 20 1 d)))
      (truncation (number (part 40 1 d)))
      (key_or_reason operation (number (part 41 2 d)))
