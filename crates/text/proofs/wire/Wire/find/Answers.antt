-- `find`: the search goes down by one entry.
use Rattle.std.proofs.Common.{◌-◌, ◌∙◌, arith}
use Rattle.text.proofs.Laws.Memory.{place_there, place_on, place_end}
use Rattle.text.proofs.wire.Wire.find.Goals as goal

pub returns-then-found-wanted-clause-place : goal.returns-then-found-wanted-clause-place
returns-then-found-wanted-clause-place c =
    place_there c.args.self.now.bytes.now c.args.wanted c.loop-i.i (c.loop-i.i - 1) _ (omega arith) c.entry_number-found.ensures c.if-found-wanted.true _ c.then_some.ensures ∙ c.loop-i.invariant.1

pub loop-i-preserved : goal.loop-i-preserved
loop-i-preserved c =
    (omega arith, place_on c.args.self.now.bytes.now c.args.wanted c.loop-i.i (c.loop-i.i - 1) _ (omega arith) c.entry_number-found.ensures (omega arith) (omega arith) ∙ c.loop-i.invariant.1)

pub returns-clause-place : goal.returns-clause-place
returns-clause-place c = place_end c.args.self.now.bytes.now c.args.wanted c.loop-i.i (omega arith) ∙ c.loop-i.invariant.1
