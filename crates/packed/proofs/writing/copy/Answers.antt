-- `copy`: a byte more, and then the rest.
use mathlib.Core.Path.{refl, ap, sym, ◌∙◌}
use Prim.Native.Nat.{◌+◌}
use native.Mathlib.Nat.{add-zero, add-suc}
use native.Mathlib.Numerals.{add-one}
use native.Mathlib.Omega.{arith}
use lib.ListN.{length-set, drop_of_length-le}
use lib.Seq.{sets, drop-cons}
use Rattle.packed.proofs.writing.copy.Goals as goal

pub loop-i-init : goal.loop-i-init
loop-i-init c = (refl, rw add-zero)

pub loop-i-preserved : goal.loop-i-preserved
loop-i-preserved c =
    let i = c.loop-i.i in (
      simp length-set c.loop-i.invariant.0,
      rw (add-one, add-suc)
          (ap (sets c.loop-i.d (c.args.at + i)) (sym (drop-cons c.args.s.now i 0 (omega arith))) ∙ c.loop-i.invariant.1),
    )

pub returns : goal.returns
returns c =
    ap (sets c.loop-i.d (c.args.at + c.loop-i.i)) (sym (drop_of_length-le c.args.s.now {i = c.loop-i.i} (omega arith))) ∙ c.loop-i.invariant.1
