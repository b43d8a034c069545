-- `are_digits` reads the run from its start. The invariant: what was found so far and what is left are the whole test.
use Rattle.std.proofs.Common.{◌≡◌, ◌&&◌, drop}
use Rattle.packed.specs.Digits.{are_digits}
use Rattle.packed.proofs.digits.are_digits.Given as goal

abbrev pub invariant-loop-b : goal.invariant-loop-b
invariant-loop-b l = (l.ok && are_digits (drop l.b-index l.b-items)) ≡ are_digits l.b-items
