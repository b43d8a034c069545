-- 01, 'Trays': a part, which is a run of whole documents.
use Rattle.std.specs.Prelude.{ℕ, ◌/◌, ◌%◌, Bool, List, eqb, length}
use Rattle.packed.specs.Pieces.{pieces}
use Rattle.document.specs.Limits.{document_bytes}

-- no document is cut
abbrev pub is_whole : List ℕ → Bool
is_whole part = eqb (length part % document_bytes) 0

-- how many documents there are
abbrev pub count_in : List ℕ → ℕ
count_in part = length part / document_bytes

-- the documents, each by its bytes
abbrev pub documents_of : List ℕ → List (List ℕ)
documents_of part = pieces document_bytes part
