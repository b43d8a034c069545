-- `exchange`: trays with a code are refused; the others are within their bounds, so that the evening can run.
use mathlib.Core.Path.{refl, ap, sym, ◌∙◌}
use Rattle.codes.specs.Answer.{answer_number}
use Rattle.codes.proofs.Laws.Refusal.{never_none}
use Rattle.exchange.proofs.Laws.Evening.{trays_good, ran, refused}
use Rattle.exchange.proofs.evening.exchange.Goals as goal

pub evening-requires : goal.evening-requires
evening-requires c =
    let all = trays_good c.args.near.presentations.now c.args.near.returns.now c.args.far.presentations.now c.args.far.returns.now 0 (ap answer_number (sym c.in-Ok.is) ∙ c.check_trays.ensures) refl in
    record { near_unmoved = all.0; far_unmoved = all.1 }

pub returns-in-Ok : goal.returns-in-Ok
returns-in-Ok c =
    c.evening.ensures ∙ ran c.args.near.presentations.now c.args.near.returns.now c.args.far.presentations.now c.args.far.returns.now 0 (ap answer_number (sym c.in-Ok.is) ∙ c.check_trays.ensures) refl

pub returns-in-Err : goal.returns-in-Err
returns-in-Err c =
    refused c.args.near.presentations.now c.args.near.returns.now c.args.far.presentations.now c.args.far.returns.now _ (c.refusal_number.ensures ∙ ap answer_number (sym c.in-Err.is) ∙ c.check_trays.ensures) (λ z. never_none _ (sym c.refusal_number.ensures ∙ z)) c.no_side.ensures c.no_side-in-Err.ensures
