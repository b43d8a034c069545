-- `send_answer`: what is refused before its code, then the code and the room.
use Rattle.std.proofs.Common.{◌∙◌}
use Rattle.std.proofs.lemmas.Result.{err_from_is_err_and}
use Rattle.codes.specs.Code.{code_number}
use Rattle.calls.proofs.Laws.Answer.{refusal_ends, none_leads_on}
use Rattle.presenting.proofs.Laws.Send.{refusal_split}
use Rattle.presenting.proofs.answer.send_answer.Goals as goal

pub returns-in_err-ready-clause-number : goal.returns-in_err-ready-clause-number
returns-in_err-ready-clause-number c =
    let p = err_from_is_err_and c.from_residual.result c.from_residual.ensures.1 in
    rw (p.1, p.2) (refusal_ends _ _ _ c.in_err-ready.ensures ∙ refusal_split c.args.time (code_number c.args.code) c.args.bytes c.args.room c.args.session)

pub returns-clause-number : goal.returns-clause-number
returns-clause-number c =
    c.unrefused.ensures.number ∙ none_leads_on _ _ c.in_ok-ready.ensures ∙ refusal_split c.args.time (code_number c.args.code) c.args.bytes c.args.room c.args.session
