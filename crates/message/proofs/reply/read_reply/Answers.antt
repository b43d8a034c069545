-- `read_reply`: length, mark, operation and code.
use Rattle.std.proofs.Common.{◌≡◌, Option, None, Result, Err, arith, ap, sym, ◌∙◌}
use Rattle.std.specs.Option.{is_some, ok_or}
use Rattle.std.proofs.lemmas.Result.{err_from_is_err_and}
use Rattle.std.proofs.lemmas.Option.{MatchOption-at_some}
use Rattle.codes.specs.declared.refusal.Refusal.{Refusal}
use Rattle.message.specs.declared.reply.ReplyOperation.{ReplyOperation}
use Rattle.message.specs.Reply.{reply_said}
use Rattle.message.proofs.Laws.Reply.{other_length, unmarked, operation_unknown, code_unknown, known_read}
use Rattle.message.proofs.reply.read_reply.Goals as goal

-- the error that stands for a missing value
missing : {T E : Type 0} (d e : E) (o : Option T) → o ≡ None → ◌≡◌ {A = Result T E} (Err d) (ok_or o e) → d ≡ e
missing {T = T} {E = E} d e o none h = let given : ◌≡◌ {A = Result T E} (Err d) (Err e) = h ∙ ap (λ (x : Option T). ok_or x e) none in cc

pub returns-in_default : goal.returns-in_default
returns-in_default c = other_length c.args.body.now (omega arith)

pub returns-in_default-2 : goal.returns-in_default-2
returns-in_default-2 c = unmarked c.args.body.now (omega arith)

pub returns-in_default-3 : goal.returns-in_default-3
returns-in_default-3 c = other_length c.args.body.now (omega arith)

pub returns-in_err-operation : goal.returns-in_err-operation
returns-in_err-operation c =
    let none = c.in_err-operation.ensures.ok_part in
    let p = err_from_is_err_and c.from_residual.result c.from_residual.ensures.1 in
    let unknown = missing c.in_err-operation.field-0.0 Refusal.UnknownReply c.read_operation.result none c.in_err-operation.ensures.value in
    ap reply_said (p.1 ∙ ap Err (p.2 ∙ unknown)) ∙ operation_unknown c.args.body.now (sym c.read_operation.ensures.known ∙ ap (λ (o : Option ReplyOperation). is_some o) none)

pub returns-in_err-code : goal.returns-in_err-code
returns-in_err-code c =
    let none = c.in_err-code.ensures.ok_part in
    let p = err_from_is_err_and c.from_residual-in_err-code.result c.from_residual-in_err-code.ensures.1 in
    let unknown = missing c.in_err-code.field-0.0 Refusal.UnknownReply c.read_code.result none c.in_err-code.ensures.value in
    ap reply_said (p.1 ∙ ap Err (p.2 ∙ unknown)) ∙ code_unknown c.args.body.now (sym c.read_code.ensures ∙ none)

pub returns : goal.returns
returns c =
    let o = c.in_ok-operation.operation in
    let k = c.in_ok-code.code in
    known_read c.args.body.now (record { operation = o; code = k }) (omega arith) (omega arith)
    (MatchOption-at_some _ _ o c.in_ok-operation.ensures.ok_part c.read_operation.ensures.carried)
    (sym c.read_code.ensures ∙ c.in_ok-code.ensures.ok_part)
