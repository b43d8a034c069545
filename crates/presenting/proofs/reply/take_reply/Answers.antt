-- `take_reply`: the chain refuses, or what is pending is counted.
use Rattle.std.proofs.Common.{◌≡◌, ℕ, Bool, List, [], refl, ap, ◌∙◌}
use Rattle.codes.specs.Refusal.{refusal_number}
use Rattle.codes.proofs.Laws.Refusal.{never_none}
use Rattle.session.specs.Parties.{Direction}
use Rattle.session.specs.Outcome.{silent, held}
use Rattle.session.specs.Reply.{is_accepted, reply_refusal, replied, take_reply}
use Rattle.session.specs.Engine.{Call, meaning}
use Rattle.session.proofs.Laws.EveryCall.{kept_beside}
use Rattle.calls.specs.Said.{called_said}
use Rattle.calls.proofs.Laws.Said.{said_done, said_refused, so_kept_beside}
use Rattle.presenting.proofs.reply.take_reply.Goals as goal

pub returns-in-Ok : goal.returns-in-Ok
unfolding take_reply meaning
returns-in-Ok c =
    let s = c.args.session in
    let lent = held s c.args.running in
    let time = c.args.time in
    let bytes = c.args.reply.now in
    let told = c.in-Ok.ensures in
    let said : (line : List ℕ) → called_said c.replied.result.called c.replied.result.running line ≡ take_reply time bytes (lent line) = λ (line : List ℕ). c.replied.ensures line ∙ ap (λ (b : Bool). silent (replied time b (lent line))) told.1 ∙ said_done 0 (reply_refusal time bytes s) (lent line) (silent (replied time (is_accepted bytes) (lent line))) told.0 refl in
    record { outcome = said; premise = so_kept_beside s _ _ (said []) Direction.presenting (kept_beside (Call.reply time bytes) (lent []) (record { sound = c.requires.sound; carried = c.requires.carried })) }

pub returns-in-Err-clause-outcome : goal.returns-in-Err-clause-outcome
unfolding take_reply
returns-in-Err-clause-outcome c =
    let s = c.args.session in
    let lent = held s c.args.running in
    let time = c.args.time in
    let bytes = c.args.reply.now in
    λ line. said_refused (refusal_number c.in-Err.refusal) (reply_refusal time bytes s) (lent line) (silent (replied time (is_accepted bytes) (lent line))) c.in-Err.ensures (never_none c.in-Err.refusal)
