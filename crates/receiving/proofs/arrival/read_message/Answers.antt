-- `read_message`: a wrong envelope ends the chain.
use Rattle.std.proofs.Common.{Bool, not, suc, eqb, ap, sym, subst}
use Rattle.std.proofs.lemmas.Result.{err_from_is_err_and}
use Rattle.codes.specs.Chain.{◌when◌}
use Rattle.message.specs.declared.envelope.Kind.{Kind}
use Rattle.message.specs.declared.envelope.Envelope.{Envelope}
use Rattle.message.proofs.Laws.Envelope.{read_told}
use Rattle.message.proofs.Laws.Reading.{number_told}
use Rattle.calls.specs.Inner.Arrival.{Told}
use Rattle.calls.proofs.Laws.Answer.{refusal_ends}
use Rattle.calls.proofs.Laws.Arrival.{told_behind}
use Rattle.receiving.specs.Inner.Order.{of_envelope}
use Rattle.receiving.proofs.arrival.read_message.Goals as goal

pub returns-in_err-envelope : goal.returns-in_err-envelope
returns-in_err-envelope c =
    let p = err_from_is_err_and c.from_residual.result c.from_residual.ensures.1 in
    rw (p.1, p.2) (refusal_ends _ _ _ (sym (number_told _ _ _ c.in_err-envelope.ensures)))

pub returns : goal.returns
unfolding ◌when◌
returns c =
    let read = read_told Kind.Message c.args.message.now c.in_ok-envelope.envelope c.in_ok-envelope.ensures in
    told_behind _ _ _ _ (sym (ap (λ (b : Bool). 21 when not b) read.0))
    (subst (λ (e : Envelope). Told (of_envelope e c.args.last c.args.room c.args.route) (eqb e.serial (suc c.args.last)) c.by_envelope.result) read.1 c.by_envelope.ensures)
