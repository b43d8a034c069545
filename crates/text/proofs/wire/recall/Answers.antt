-- `recall`: nothing is found where too few bytes are lent, and where no entry has the number.
use Rattle.std.proofs.Common.{ℕ, Option, length, refl, ap, sym, ◌∙◌, arith}
use Rattle.text.specs.Got.{got_of, fitting}
use Rattle.text.specs.Memory.{between_places}
use Rattle.text.proofs.Laws.Memory.{recall_short, recall_none, recall_found}
use Rattle.text.proofs.wire.recall.Goals as goal

pub returns-then-wire-lt-WIRE_BYTES-clause-read : goal.returns-then-wire-lt-WIRE_BYTES-clause-read
unfolding fitting
returns-then-wire-lt-WIRE_BYTES-clause-read c =
    sym (ap (fitting (length c.args.bytes.now)) (recall_short c.args.m c.args.wire.now c.args.wanted c.if-wire-lt-WIRE_BYTES.true))

pub returns-in_err-i-clause-read : goal.returns-in_err-i-clause-read
unfolding fitting
returns-in_err-i-clause-read c =
    ap (λ (r : Option ℕ). got_of r c.args.bytes.now) c.from_residual.ensures
    ∙ sym (ap (fitting (length c.args.bytes.now)) (recall_none c.args.m c.args.wire.now c.args.wanted (omega arith) 65536 c.in_err-i.ensures.place refl))

pub returns-clause-read : goal.returns-clause-read
returns-clause-read c =
    let most = length c.args.bytes.now in
    c.copy_between.ensures.read
    ∙ (λ t. fitting most (between_places c.args.wire.now (c.end_of.ensures t) (c.end_of-2.ensures t)))
    ∙ ap (fitting most) (sym (recall_found c.args.m c.args.wire.now c.args.wanted (omega arith) c.in_ok-i.i c.in_ok-i.ensures.place (omega (arith, c.in_ok-i.ensures.bound))))
