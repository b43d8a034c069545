-- 01, 'Detail': a body as a list of groups, and a group as a list of documents.
use Rattle.std.specs.Prelude.{ℕ, ◌+◌, ◌*◌, Bool, ◌&&◌, eqb, length, drop}
use mathlib.Core.List.{List, flat_map}
use Rattle.packed.specs.Part.{byte_at}
use Rattle.packed.specs.Every.{every}
use Rattle.packed.specs.Pieces.{pieces}
use Rattle.codes.specs.Field.{between}
use Rattle.codes.specs.Body.{mark, operation_of}
use Rattle.document.specs.Limits.{document_bytes}
use Rattle.document.specs.Operation.{is_operation}
use Rattle.detail.specs.Limits.{head_bytes, full_count, most_groups, group_bytes}
use Rattle.document.specs.Part.{documents_of}

-- 'Each count is 4, the last may be 1 to 4': the pieces of a full group's length, the last with what is left; Shape has the sentence as it is printed
unfoldable pub groups : List ℕ → List (List ℕ)
groups body = pieces group_bytes body

-- byte 4 of a group
abbrev pub count_of : List ℕ → ℕ
count_of g = byte_at 4 g

-- the mark, one of the two operations, a count of 1 to 4, and so many documents to the byte
unfoldable pub group_good : List ℕ → Bool
group_good g =
    eqb (byte_at 2 g) mark && is_operation (operation_of g) && between 1 full_count (count_of g) && eqb (length g) (head_bytes + count_of g * document_bytes)

-- 1 to 50 groups, all good
unfoldable pub shape_good : List ℕ → Bool
shape_good body = between 1 most_groups (length (groups body)) && every group_good (groups body)

-- 09 otherwise: no later group has another operation than the first
unfoldable pub one_operation : List ℕ → Bool
one_operation body = every (λ (g : List ℕ). eqb (operation_of g) (operation_of body)) (groups body)

-- the documents of a group
abbrev pub group_documents : List ℕ → List (List ℕ)
group_documents g = documents_of (drop head_bytes g)

-- and those of a body, in order
unfoldable pub documents : List ℕ → List (List ℕ)
documents body = flat_map group_documents (groups body)
