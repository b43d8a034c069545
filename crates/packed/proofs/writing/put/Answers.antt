-- `put`: each byte is the last of those still to come.
use Rattle.std.proofs.Common.{◌≡◌, ℕ, ◌+◌, ◌-◌, ◌/◌, set, ap, ◌∙◌, arith}
use Rattle.std.proofs.Math.Seq.{sets}
use Rattle.packed.specs.Writing.{packed_byte, packed_bytes}
use Rattle.packed.proofs.Laws.Writing.{put_step}
use Rattle.packed.proofs.writing.put.Goals as goal

pub loop-i-init : goal.loop-i-init
loop-i-init c = let all : c.args.at + c.args.n - c.args.at ≡ c.args.n = omega arith in rw all

pub loop-i-preserved : goal.loop-i-preserved
loop-i-preserved c =
    let at = c.args.at in
    let i = c.loop-i.i in
    let place : i - 1 ≡ at + (i - 1 - at) = omega arith in
    let width : i - 1 - at + 1 ≡ i - at = omega arith in
    rw c.packed_byte.ensures
    (ap (λ (j : ℕ). sets (set c.loop-i.d j (packed_byte c.loop-i.rest)) at (packed_bytes (i - 1 - at) (c.loop-i.rest / 100))) place
    ∙ put_step c.loop-i.d at (i - 1 - at) c.loop-i.rest
    ∙ ap (λ (m : ℕ). sets c.loop-i.d at (packed_bytes m c.loop-i.rest)) width
    ∙ c.loop-i.invariant)

pub returns : goal.returns
unfolding packed_bytes
returns c =
    let none : c.loop-i.i - c.args.at ≡ 0 = omega arith in
    rw none at c.loop-i.invariant
