-- `copy_between`: what stands between two places, if they are places of the memory and it fits.
use Rattle.std.proofs.Common.{ℕ, ◌-◌, Some, take, length, refl, ap, ◌∙◌, inl, inr, arith}
use Rattle.packed.proofs.Laws.Part.{part_length}
use Rattle.text.proofs.Laws.Memory.{copy_outside, copy_turned, copy_over, copy_all}
use Rattle.text.proofs.wire.Wire.copy_between.Goals as goal

pub returns-then-to-clause-read : goal.returns-then-to-clause-read
returns-then-to-clause-read c =
    let most = length c.args.bytes.now in
    elim c.then-to.either [ inl h ↦ copy_outside most c.args.self.now.bytes.now c.args.from c.args.to h | inr h ↦ copy_turned most c.args.self.now.bytes.now c.args.from c.args.to h.0 h.1 ]

pub returns-then-bytes-kept-clause-read : goal.returns-then-bytes-kept-clause-read
returns-then-bytes-kept-clause-read c =
    let size = part_length c.args.from (c.args.to - c.args.from) c.args.self.now.bytes.now (omega arith) in
    copy_over _ c.args.self.now.bytes.now c.args.from c.args.to c.if-to.false c.if-to-from.false c.args.self.now.whole (omega (arith, size))

pub returns-clause-read : goal.returns-clause-read
returns-clause-read c =
    let size = part_length c.args.from (c.args.to - c.args.from) c.args.self.now.bytes.now (omega arith) in
    ap (λ (n : ℕ). Some (take n c.copy.new.d)) size
    ∙ copy_all _ c.args.self.now.bytes.now c.args.from c.args.to c.if-to.false c.if-to-from.false c.args.self.now.whole c.args.bytes.now _ refl (omega (arith, size)) c.copy.ensures
