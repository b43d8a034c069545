-- `number` reads the run from its start. The invariant: the value so far is that of the bytes passed.
use Rattle.std.proofs.Common.{◌≡◌}
use Rattle.packed.specs.Part.{part}
use Rattle.packed.specs.Number.{number}
use Rattle.packed.proofs.number.number.Given as goal

abbrev pub invariant-loop-b : goal.invariant-loop-b
invariant-loop-b l = l.value ≡ number (part l.at l.b-index l.s)
