-- `sweep` reads three runs side by side. The invariant, for each: what was found so far and what is left are the whole test.
use Rattle.std.proofs.Common.{◌≡◌, ℕ, ◌+◌, ◌-◌, Bool, ◌&&◌, List}
use Rattle.packed.specs.Part.{part}
use Rattle.packed.specs.Digits.{are_digits}
use Rattle.document.proofs.digits.sweep.Given as goal

-- i bytes of the run from a place on are read
abbrev pub Read : (from i : ℕ) → Bool → List ℕ → Type 0
Read from i ok d = (ok && are_digits (part (from + i) (16 - i) d)) ≡ are_digits (part from 16 d)

abbrev pub invariant-loop-i : goal.invariant-loop-i
invariant-loop-i l = Read 0 l.i l.first l.d × Read 16 l.i l.second l.d × Read 31 l.i l.third l.d
