use mathlib.Core.Path.{ap, sym, ◌∙◌}
use mathlib.Core.List.{List, flat_map}
use Prim.Native.Nat.{ℕ, ◌-◌}
use native.Mathlib.Omega.{arith}
use lib.ListN.{length, length-append, length-take, length-drop}
use Rattle.std.specs.Slice.Iter.{chunks_rest, chunks_size}
use Rattle.packed.proofs.Laws.Part.{part_tail}
use Rattle.amounts.specs.Totals.{zeros}
use Rattle.document.specs.Inner.Found.{found_in, join}
use Rattle.document.proofs.Laws.Found.{found_end, found_more, nothing_join, within_plus, within_more, within_zeros}
use Rattle.detail.specs.Limits.{group_bytes}
use Rattle.detail.specs.Groups.{groups, group_documents, documents}
use Rattle.detail.proofs.Laws.Chunks.{none_left}
use Rattle.detail.proofs.Laws.Groups.{first_group}
use Rattle.detail.proofs.documents.read_groups.Goals as goal

pub loop-g-init : goal.loop-g-init
unfolding groups documents
loop-g-init c =
    let it = c.into_iter-g-iterator.ensures.into_iter_gives in
    let size = ap chunks_size it ∙ c.chunks-g-items.ensures.size in
    let rest = ap chunks_rest it ∙ c.chunks-g-items.ensures.rest in (
      omega (arith, size),
      tt,
      size,
      omega (arith, ap length rest),
      rw rest c.requires.body_value,
      rw c.nothing-found.ensures (within_more 0 _ zeros (omega arith) within_zeros),
      rw (c.nothing-found.ensures, rest) (nothing_join (found_in c.args.operation c.args.receiving c.args.represented.now (documents c.args.body.now))),
    )

pub slice_bounds-read_documents-count : goal.slice_bounds-read_documents-count
slice_bounds-read_documents-count c =
    let steps = c.in-Some.ensures.steps in
    let first = first_group (chunks_size c.loop-g.g-iterator) (chunks_rest c.loop-g.g-iterator) c.in-Some.g.now (chunks_rest c.next.new.self) c.loop-g.invariant.2 c.loop-g.invariant.4 steps.1.0 steps.1.1 steps.1.2 in
    omega (arith, first.here)

pub slice_bounds-read_documents-start : goal.slice_bounds-read_documents-start
slice_bounds-read_documents-start c =
    let steps = c.in-Some.ensures.steps in
    let first = first_group (chunks_size c.loop-g.g-iterator) (chunks_rest c.loop-g.g-iterator) c.in-Some.g.now (chunks_rest c.next.new.self) c.loop-g.invariant.2 c.loop-g.invariant.4 steps.1.0 steps.1.1 steps.1.2 in
    omega (arith, first.here)

pub read_documents-requires-clause-document_bytes_len : goal.read_documents-requires-clause-document_bytes_len
read_documents-requires-clause-document_bytes_len c =
    let steps = c.in-Some.ensures.steps in
    let first = first_group (chunks_size c.loop-g.g-iterator) (chunks_rest c.loop-g.g-iterator) c.in-Some.g.now (chunks_rest c.next.new.self) c.loop-g.invariant.2 c.loop-g.invariant.4 steps.1.0 steps.1.1 steps.1.2 in
    rw (part_tail 4 c.in-Some.g.now) (simp length-drop (omega (arith, first.here)))

pub loop-g-preserved : goal.loop-g-preserved
unfolding flat_map
loop-g-preserved c =
    let steps = c.in-Some.ensures.steps in
    let so = c.loop-g.found in
    let g = c.in-Some.g.now in
    let n = length c.args.body.now in
    let old = chunks_rest c.loop-g.g-iterator in
    let new = chunks_rest c.next.new.self in
    let first = first_group (chunks_size c.loop-g.g-iterator) old g new c.loop-g.invariant.2 c.loop-g.invariant.4 steps.1.0 steps.1.1 steps.1.2 in
    let sum = ap length steps.1.0 ∙ length-append g new in (
      omega (arith, steps.0),
      tt,
      steps.0 ∙ c.loop-g.invariant.2,
      omega arith,
      first.left,
      rw c.join-found.ensures
          (within_more _ (n - length new) _ (simp (length-take, length-drop) (omega arith)) (within_plus (n - length old) _ so.totals c.read_documents.result.totals c.loop-g.invariant.5 c.read_documents.ensures.bound)),
      rw (c.join-found.ensures, c.read_documents.ensures.found, part_tail 4 g)
          (found_more c.args.operation c.args.receiving c.args.represented.now so (group_documents g) _
          ∙ ap (λ (gs : List (List ℕ)). join so (found_in c.args.operation c.args.receiving c.args.represented.now (flat_map group_documents gs))) (sym first.next)
          ∙ c.loop-g.invariant.6),
    )

pub returns : goal.returns
unfolding flat_map
returns c =
    let so = c.loop-g.found in
    let none = none_left group_bytes (chunks_rest c.loop-g.g-iterator) c.in-None.ensures.steps.1.0 in
    sym (found_end c.args.operation c.args.receiving c.args.represented.now so)
    ∙ ap (λ (gs : List (List ℕ)). join so (found_in c.args.operation c.args.receiving c.args.represented.now (flat_map group_documents gs))) (sym none)
    ∙ c.loop-g.invariant.6
