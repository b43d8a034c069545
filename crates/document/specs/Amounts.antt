-- 01, 'Detail': what documents are worth, and the commission on them. 02, card 6: a document for nothing.
use Rattle.std.specs.Prelude.{ℕ, Bool, List, [], ◌∷◌, ltb}
use Rattle.codes.specs.Field.{field_number}
use Rattle.amounts.specs.declared.Totals.{Totals}
use Rattle.amounts.specs.Totals.{totals, zeros, plus}
use Rattle.document.specs.Fields.{document_position, nominal_field, commission_field}

-- positions 30-35
unfoldable pub nominal : List ℕ → ℕ
nominal d = field_number document_position d nominal_field

-- positions 48-51
unfoldable pub commission : List ℕ → ℕ
commission d = field_number document_position d commission_field

-- 44 otherwise: the nominal is not zero, whether the document is presented or a return
unfoldable pub for_something : List ℕ → Bool
for_something d = ltb 0 (nominal d)

-- the totals of one document
abbrev pub document_totals : List ℕ → Totals
document_totals d = totals 1 (nominal d) (commission d)

-- and of some
unfoldable pub totals_of : List (List ℕ) → Totals
totals_of [] = zeros
totals_of (d ∷ ds) = plus (document_totals d) (totals_of ds)
