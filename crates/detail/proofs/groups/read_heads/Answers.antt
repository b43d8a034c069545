use mathlib.Core.Path.{ap, sym, ◌∙◌}
use mathlib.Core.Bool.{◌&&◌}
use mathlib.Core.List.{List}
use Prim.Native.Nat.{ℕ}
use native.Mathlib.Omega.{arith}
use borrow.Author.Rules.{rules}
use lib.Dec.{lit<}
use Rattle.std.specs.Slice.Iter.{chunks_rest}
use Rattle.packed.specs.Every.{every}
use Rattle.packed.proofs.Laws.Every.{every_none, every_step}
use Rattle.codes.specs.Body.{operation_of}
use Rattle.detail.specs.Limits.{group_bytes}
use Rattle.detail.specs.Groups.{group_good, groups, one_operation}
use Rattle.detail.proofs.Laws.Chunks.{none_left, chunk_first}
use Rattle.detail.proofs.groups.read_heads.Invariants.{same_as}
use Rattle.detail.proofs.groups.read_heads.Goals as goal

pub loop-g-init : goal.loop-g-init
unfolding groups one_operation
loop-g-init c = search rules

pub loop-g-preserved : goal.loop-g-preserved
loop-g-preserved c =
    let steps = c.in-Some.ensures.steps in
    let size = c.loop-g.invariant.2 in
    let same = same_as (operation_of c.args.body.now) in
    let next = sym (chunk_first group_bytes (chunks_rest c.loop-g.g-iterator) c.in-Some.g.now (chunks_rest c.next.new.self) (lit< tt) steps.1.0 (rw size at steps.1.1) steps.1.2) in (
      omega (arith, steps.0),
      tt,
      steps.0 ∙ size,
      rw c.group_good-good.ensures
          (every_step group_good c.loop-g.good _ _ ∙ ap (λ (gs : List (List ℕ)). c.loop-g.good && every group_good gs) next ∙ c.loop-g.invariant.3),
      rw (c.operation_of.ensures, c.operation_of-operation.ensures)
          (every_step same c.loop-g.one _ _ ∙ ap (λ (gs : List (List ℕ)). c.loop-g.one && every same gs) next ∙ c.loop-g.invariant.4),
    )

pub returns : goal.returns
returns c =
    let same = same_as (operation_of c.args.body.now) in
    let none = sym (none_left group_bytes (chunks_rest c.loop-g.g-iterator) c.in-None.ensures.steps.1.0) in record {
      good =
          sym (every_none group_good c.loop-g.good) ∙ ap (λ (gs : List (List ℕ)). c.loop-g.good && every group_good gs) none ∙ c.loop-g.invariant.3;
      one =
          sym (every_none same c.loop-g.one) ∙ ap (λ (gs : List (List ℕ)). c.loop-g.one && every same gs) none ∙ c.loop-g.invariant.4;
    }
