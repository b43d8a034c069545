-- 01, 'Given because of the input', 06: what is compared with the entities that the receiving centre stands for.
use Rattle.std.specs.Prelude.{ℕ, Bool, not, ◌||◌, List, ◌∷◌, eqb}
use Rattle.codes.specs.Field.{field_number}
use Rattle.document.specs.Operation.{presented}
use Rattle.document.specs.Fields.{document_position, drawee_field}
use Rattle.packed.specs.Every.{member}

-- positions 36-37
unfoldable pub drawee : List ℕ → ℕ
drawee d = field_number document_position d drawee_field

-- 06 otherwise: the drawee of a presented document is own or represented; a return's is not compared
unfoldable pub drawee_served : (operation own : ℕ) (represented : List ℕ) → List ℕ → Bool
drawee_served operation own represented d = not (eqb operation presented) || member (drawee d) (own ∷ represented)
