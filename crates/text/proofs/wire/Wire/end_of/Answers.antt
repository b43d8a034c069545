-- `end_of`: the second half of the last entry.
use Prim.Native.Nat.{◌-◌}
use native.Mathlib.Omega.{arith}
use Rattle.text.proofs.Laws.Memory.{end_at_lem, end_none}
use Rattle.text.proofs.wire.Wire.end_of.Goals as goal

pub returns-then-i-eq0 : goal.returns-then-i-eq0
returns-then-i-eq0 c = end_none c.args.self.now.bytes.now c.args.i c.if-i-eq0.true

pub returns : goal.returns
returns c = end_at_lem c.args.self.now.bytes.now c.args.i (c.args.i - 1) _ (omega arith) c.number.ensures.value
