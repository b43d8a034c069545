-- `read_documents` passes over the documents of the part. The invariant: what was found, joined with what the documents left hold, is what
-- all of them hold.
use Rattle.std.proofs.Common.{◌≡◌, drop}
use Rattle.document.specs.Inner.Bounds.{Within}
use Rattle.document.specs.Inner.Found.{found_in, join}
use Rattle.detail.proofs.documents.read_documents.Given as goal

abbrev pub invariant-loop-d : goal.invariant-loop-d
invariant-loop-d l =
    Within l.d-index l.found.totals
    × (join l.found (found_in l.operation l.receiving l.represented (drop l.d-index l.documents)) ≡ found_in l.operation l.receiving l.represented l.documents)
