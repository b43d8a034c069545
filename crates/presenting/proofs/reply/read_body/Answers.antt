-- `read_body`: an unknown reply ends the chain; else it is the awaited one or not.
use Rattle.std.proofs.Common.{◌≡◌, ℕ, Bool, not, [], ◌∷◌, sym, ap, ◌∙◌, eqb}
use Rattle.std.proofs.lemmas.Result.{err_from_is_err_and}
use Rattle.packed.specs.Part.{byte_at}
use Rattle.packed.specs.Number.{byte_value}
use Rattle.codes.specs.Chain.{◌when◌}
use Rattle.codes.specs.Body.{operation_of}
use Rattle.codes.specs.Code.{code_number}
use Rattle.codes.proofs.Laws.Code.{code_value}
use Rattle.message.specs.Reply.{operation_number, reply_good}
use Rattle.message.proofs.Laws.Reading.{told, number_told}
use Rattle.message.proofs.Laws.Reply.{read_told}
use Rattle.session.specs.Reply.{is_awaited}
use Rattle.calls.proofs.Laws.Answer.{refusal_ends, none_leads_on}
use Rattle.presenting.proofs.reply.read_body.Goals as goal
use Rattle.presenting.proofs.reply.read_body.Goals.{After-refused_when}

-- what a reply that is read tells: that it is good, and its operation and code
good : (k : After-refused_when) → 0 ≡ (22 when not (reply_good k.args.body.now))
good k =
    let r = k.in_ok-reply.reply in
    let body = k.args.body.now in
    sym (told (22 when not (reply_good body)) _ (operation_number r.operation ∷ code_number r.code ∷ []) k.in_ok-reply.ensures).0

awaited : (k : After-refused_when) → (35 when not k.is_awaited.result) ≡ (35 when not (is_awaited k.args.serial (operation_of k.args.body.now) k.args.p))
awaited k =
    let known = read_told k.in_ok-reply.reply k.args.body.now k.in_ok-reply.ensures in
    ap (λ (b : Bool). 35 when not b) (k.is_awaited.ensures ∙ ap (λ (o : ℕ). is_awaited k.args.serial o k.args.p) (sym known.2))

value : (k : After-refused_when) → code_number k.in_ok-reply.reply.code ≡ byte_value (byte_at 4 k.args.body.now)
value k =
    let r = k.in_ok-reply.reply in
    sym (ap byte_value (read_told r k.args.body.now k.in_ok-reply.ensures).3 ∙ code_value r.code)

pub returns-in_err-reply : goal.returns-in_err-reply
returns-in_err-reply c =
    let p = err_from_is_err_and c.from_residual.result c.from_residual.ensures.1 in
    rw (p.1, p.2) (refusal_ends _ _ _ (sym (number_told _ _ _ c.in_err-reply.ensures)))

pub returns-in_err-refused_when : goal.returns-in_err-refused_when
returns-in_err-refused_when c =
    let k = (goal.at.returns-in_err-refused_when c).After-refused_when in
    let r = c.from_residual-in_err-refused_when in
    let p = err_from_is_err_and r.result r.ensures.1 in
    rw (p.1, p.2) (c.in_err-refused_when.ensures ∙ awaited k ∙ none_leads_on _ _ (good k))

pub returns : goal.returns
returns c =
    let k = (goal.at.returns c).After-refused_when in
    (c.in_ok-refused_when.ensures ∙ awaited k ∙ none_leads_on _ _ (good k), c.is_accepted.ensures ∙ ap (λ (n : ℕ). eqb n 0) (value k))
