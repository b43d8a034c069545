-- `are_digits`: each byte is one more of the run, and at the end none is left.
use Rattle.std.proofs.Common.{ap, sym, ◌∙◌, arith}
use Rattle.packed.specs.Digits.{is_digits, are_digits}
use Rattle.packed.proofs.Laws.Part.{part_all}
use Rattle.packed.proofs.Laws.Every.{every_more, every_end}
use Rattle.packed.proofs.digits.are_digits.Goals as goal

pub loop-b-preserved : goal.loop-b-preserved
loop-b-preserved c = rw c.is_digits-ok.ensures (every_more is_digits _ c.loop-b.b-index 0 c.loop-b.ok (omega arith) ∙ c.loop-b.invariant)

pub returns : goal.returns
returns c =
    sym (every_end is_digits _ c.loop-b.b-index c.loop-b.ok (omega arith))
    ∙ c.loop-b.invariant
    ∙ ap are_digits (part_all c.args.at c.args.n c.args.s.now)
