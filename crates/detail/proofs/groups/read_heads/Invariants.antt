-- `read_heads` passes over the groups. The invariant, for each of the two tests: found so far, and found in the groups left, is the test of
-- all groups.
use Rattle.std.proofs.Common.{◌≡◌, ℕ, Bool, List}
use mathlib.Core.Bool.{◌&&◌}
use lib.Dec.{eqb}
use Rattle.std.specs.Slice.Iter.{chunks_rest, chunks_size}
use Rattle.packed.specs.Every.{every}
use Rattle.packed.specs.Pieces.{pieces}
use Rattle.codes.specs.Body.{operation_of}
use Rattle.detail.specs.Limits.{group_bytes}
use Rattle.detail.specs.Groups.{group_good, groups, one_operation}
use Rattle.detail.proofs.groups.read_heads.Given as goal

-- a group with that operation
abbrev pub same_as : ℕ → List ℕ → Bool
same_as operation g = eqb (operation_of g) operation

abbrev pub invariant-loop-g : goal.invariant-loop-g
invariant-loop-g l =
    let rest = pieces group_bytes (chunks_rest l.g-iterator) in
    (goal.iterator-loop-g).can_next l.g-iterator
    × (goal.iterator-loop-g).is_finite l.g-iterator
    × (chunks_size l.g-iterator ≡ group_bytes)
    × ((l.good && every group_good rest) ≡ every group_good (groups l.body))
    × ((l.one && every (same_as (operation_of l.body)) rest) ≡ one_operation l.body)
