use mathlib.Core.Path.{◌≡◌, ap, sym, ◌∙◌}
use mathlib.Core.List.{List, ◌++◌}
use Prim.Native.Nat.{ℕ, min, ◌+◌, ◌<◌}
use native.Mathlib.Omega.{arith}
use lib.ListN.{length, length-append}
use lib.Seq.{sets}
use Rattle.std.specs.Slice.Iter.{chunks_rest, chunks_size}
use Rattle.packed.proofs.Laws.Writing.{sets_append}
use Rattle.detail.specs.Limits.{fill_bytes}
use Rattle.detail.specs.Writing.{written_group, written_detail}
use Rattle.detail.proofs.Laws.Writing.{none_to_write, group_first}
use Rattle.detail.proofs.writing.write_detail.Goals as goal

-- what is to come is the group at hand and the rest
first : (size operation : ℕ) (old ds new : List ℕ) → size ≡ fill_bytes → old ≡ ds ++ new → length ds ≡ min size (length old) → 0 < length old → length (written_detail operation old) ≡ 4 + length ds + length (written_detail operation new)
first size operation old ds new e parts long some =
    ap length (group_first operation size old ds new e parts long some) ∙ length-append (written_group operation ds) (written_detail operation new) ∙ omega arith

pub write_group-requires-clause-documents_in_bounds : goal.write_group-requires-clause-documents_in_bounds
write_group-requires-clause-documents_in_bounds c =
    let steps = c.in-Some.ensures.steps in
    omega (arith, c.loop-documents.invariant, first (chunks_size c.loop-documents.documents-iterator) c.args.operation_byte (chunks_rest c.loop-documents.documents-iterator) c.in-Some.documents.now (chunks_rest c.next.new.self) c.loop-documents.invariant.2 steps.1.0 steps.1.1 steps.1.2)

pub loop-documents-preserved : goal.loop-documents-preserved
loop-documents-preserved c =
    let steps = c.in-Some.ensures.steps in
    let size = c.loop-documents.invariant.2 in
    let to = c.loop-documents.to in
    let operation = c.args.operation_byte in
    let ds = c.in-Some.documents.now in
    let old = chunks_rest c.loop-documents.documents-iterator in
    let new = chunks_rest c.next.new.self in
    let group = written_group operation ds in
    let count = first (chunks_size c.loop-documents.documents-iterator) operation old ds new size steps.1.0 steps.1.1 steps.1.2 in
    let place : to + (4 + length ds) ≡ to + length group = omega arith in (
      omega (arith, steps.0),
      tt,
      steps.0 ∙ size,
      c.write_group.auto.out ∙ c.loop-documents.invariant.3,
      omega (arith, count),
      rw (c.write_group.ensures, place)
          (sets_append group (written_detail operation new) c.loop-documents.out to
          ∙ ap (sets c.loop-documents.out to) (sym (group_first operation (chunks_size c.loop-documents.documents-iterator) old ds new size steps.1.0 steps.1.1 steps.1.2))
          ∙ c.loop-documents.invariant.5),
    )

pub returns : goal.returns
returns c =
    let none = none_to_write c.args.operation_byte (chunks_rest c.loop-documents.documents-iterator) c.in-None.ensures.steps.1.0 in
    record { length = omega (arith, ap length none); bytes = ap (sets c.loop-documents.out c.loop-documents.to) (sym none) ∙ c.loop-documents.invariant.5 }
