-- `write_detail` writes group by group. The invariant: with what is still to come, the slice is what it is to be, and that ends where the
-- written body ends.
use Rattle.std.proofs.Common.{◌≡◌, ◌+◌, length}
use lib.Seq.{sets}
use Rattle.std.specs.Slice.Iter.{chunks_rest, chunks_size}
use Rattle.detail.specs.Limits.{fill_bytes}
use Rattle.detail.specs.Writing.{written_detail}
use Rattle.detail.proofs.writing.write_detail.Given as goal

abbrev pub invariant-loop-documents : goal.invariant-loop-documents
invariant-loop-documents l =
    let rest = written_detail l.operation_byte (chunks_rest l.documents-iterator) in
    (goal.iterator-loop-documents).can_next l.documents-iterator
    × (goal.iterator-loop-documents).is_finite l.documents-iterator
    × (chunks_size l.documents-iterator ≡ fill_bytes)
    × (length l.out ≡ length l.initial.out)
    × (l.to + length rest ≡ length (written_detail l.operation_byte l.part))
    × (sets l.out l.to rest ≡ sets l.initial.out 0 (written_detail l.operation_byte l.part))
