-- `read_groups` passes over the groups. The invariant: what was found, joined with what the groups left hold, is what the whole body holds;
-- and the groups left are good.
use Rattle.std.proofs.Common.{◌≡◌, true, ◌-◌, ◌≤◌, length}
use mathlib.Core.List.{flat_map}
use Rattle.std.specs.Slice.Iter.{chunks_rest, chunks_size}
use Rattle.packed.specs.Every.{every}
use Rattle.packed.specs.Pieces.{pieces}
use Rattle.document.specs.Inner.Bounds.{Within}
use Rattle.document.specs.Inner.Found.{found_in, join}
use Rattle.detail.specs.Limits.{group_bytes}
use Rattle.detail.specs.Groups.{group_good, group_documents, documents}
use Rattle.detail.proofs.documents.read_groups.Given as goal

abbrev pub invariant-loop-g : goal.invariant-loop-g
invariant-loop-g l =
    let rest = chunks_rest l.g-iterator in
    (goal.iterator-loop-g).can_next l.g-iterator
    × (goal.iterator-loop-g).is_finite l.g-iterator
    × (chunks_size l.g-iterator ≡ group_bytes)
    × (length rest ≤ length l.body)
    × (every group_good (pieces group_bytes rest) ≡ true)
    × Within (length l.body - length rest) l.found.totals
    × (join l.found (found_in l.operation l.receiving l.represented (flat_map group_documents (pieces group_bytes rest))) ≡ found_in l.operation l.receiving l.represented (documents l.body))
