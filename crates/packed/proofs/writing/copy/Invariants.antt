-- `copy` writes from the first byte on. The invariant: with the bytes that are still to come, the slice is what it is to be.
use Rattle.std.proofs.Common.{◌≡◌, ◌+◌, length, drop}
use Rattle.std.proofs.Math.Seq.{sets}
use Rattle.packed.proofs.writing.copy.Given as goal

abbrev pub invariant-loop-i : goal.invariant-loop-i
invariant-loop-i l = (length l.d ≡ length l.initial.d) × (sets l.d (l.at + l.i) (drop l.i l.s) ≡ sets l.initial.d l.at l.s)
