-- `all_zero`: each byte is one more, and at the end none is left.
use Rattle.std.proofs.Common.{ℕ, sym, ◌∙◌, arith}
use lib.Dec.{eqb}
use Rattle.packed.proofs.Laws.Every.{every_more, every_end}
use Rattle.lot_file.proofs.contents.all_zero.Goals as goal

pub loop-b-preserved : goal.loop-b-preserved
loop-b-preserved c = every_more (λ (b : ℕ). eqb b 0) _ c.loop-b.b-index 0 c.loop-b.zero (omega arith) ∙ c.loop-b.invariant

pub returns : goal.returns
returns c = sym (every_end (λ (b : ℕ). eqb b 0) _ c.loop-b.b-index c.loop-b.zero (omega arith)) ∙ c.loop-b.invariant
