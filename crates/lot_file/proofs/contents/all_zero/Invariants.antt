-- `all_zero`: what was found so far and what is left are the whole test.
use Rattle.std.proofs.Common.{◌≡◌, ◌&&◌, ℕ, drop}
use lib.Dec.{eqb}
use Rattle.packed.specs.Every.{every}
use Rattle.lot_file.proofs.contents.all_zero.Given as goal

abbrev pub invariant-loop-b : goal.invariant-loop-b
invariant-loop-b l = (l.zero && every (λ (b : ℕ). eqb b 0) (drop l.b-index l.bytes)) ≡ every (λ (b : ℕ). eqb b 0) l.bytes
