-- `put` writes from the last byte back. The invariant: with the bytes that are still to come, the slice is what it is to be.
use Rattle.std.proofs.Common.{◌≡◌, ◌-◌}
use Rattle.std.proofs.Math.Seq.{sets}
use Rattle.packed.specs.Writing.{packed_bytes}
use Rattle.packed.proofs.writing.put.Given as goal

abbrev pub invariant-loop-i : goal.invariant-loop-i
invariant-loop-i l = sets l.d l.at (packed_bytes (l.i - l.at) l.rest) ≡ sets l.initial.d l.at (packed_bytes l.n l.value)
