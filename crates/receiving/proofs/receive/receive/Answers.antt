-- `receive`: the chain refuses, or the direction goes on and the kept reply is written.
use Rattle.std.proofs.Common.{◌≡◌, ℕ, cond, List, length, refl, ap, ◌∙◌, rules}
use Rattle.packed.proofs.Laws.Part.{part_tail}
use Rattle.codes.specs.Refusal.{refusal_number}
use Rattle.codes.proofs.Laws.Refusal.{never_none}
use Rattle.message.specs.declared.envelope.Kind.{Kind}
use Rattle.message.specs.Limits.{envelope_bytes}
use Rattle.message.specs.Content.{content_of}
use Rattle.message.proofs.Laws.Envelope.{enough}
use Rattle.session.specs.Parties.{Direction}
use Rattle.session.specs.Outcome.{held}
use Rattle.session.specs.Receiving.{received_code, receiving_course, receiving_after, receive_refusal, receive, after_message, replying}
use Rattle.session.specs.Engine.{Call, meaning}
use Rattle.session.proofs.Laws.EveryCall.{kept_beside}
use Rattle.session.proofs.Laws.Refusals.{ReceiveTold}
use Rattle.calls.proofs.Laws.Said.{said_refused, so_kept_beside}
use Rattle.receiving.specs.declared.receive.ReceiveOutcome.{ReceiveOutcome}
use Rattle.receiving.specs.Said.{received_said}
use Rattle.receiving.proofs.Laws.Receive.{told, replied_so}
use Rattle.receiving.proofs.receive.receive.Goals as goal
use Rattle.receiving.proofs.receive.receive.Goals.{In-Ok}

-- what the chain tells of a message that it lets pass
passed : (k : In-Ok) → ReceiveTold k.args.message.now (held k.args.session k.args.running k.args.line.now)
passed k = told k.args.time k.args.message.now k.args.session k.args.running k.args.line.now 0 k.in-Ok.ensures.0 refl

pub slice_bounds-handle_if-count : goal.slice_bounds-handle_if-count
slice_bounds-handle_if-count c = enough Kind.Message c.args.message.now (passed (goal.at.slice_bounds-handle_if-count c).In-Ok).good

pub slice_bounds-handle_if-start : goal.slice_bounds-handle_if-start
slice_bounds-handle_if-start c = let h = enough Kind.Message c.args.message.now (passed (goal.at.slice_bounds-handle_if-start c).In-Ok).good in search rules

pub replying-requires : goal.replying-requires
replying-requires c = (passed (goal.at.replying-requires c).In-Ok).room

pub returns-in-Ok : goal.returns-in-Ok
unfolding receive meaning
returns-in-Ok c =
    let s = c.args.session in
    let bytes = c.args.message.now in
    let lent = held s c.args.running c.args.line.now in
    let next = c.in-Ok.next in
    let handled = c.handle_if-after in
    let body = part_tail envelope_bytes bytes in
    let after = handled.ensures.receiving ∙ ap (λ (x : List ℕ). cond next (receiving_after (received_code (content_of x) c.args.time x s.parties c.args.running s.receiving) x c.args.running s.receiving) s.receiving) body in
    let running = handled.ensures.running ∙ ap (λ (x : List ℕ). cond next (receiving_course (received_code (content_of x) c.args.time x s.parties c.args.running s.receiving) x c.args.running s.receiving).running c.args.running) body in
    let line = c.replying.new.line in
    let said : received_said c.replying.result.received c.replying.result.running line ≡ receive c.args.time bytes lent =
    ap (λ (x : ReceiveOutcome). received_said x.received x.running line) c.replying.ensures.result
    ∙ replied_so c.args.time bytes s c.args.running c.args.line.now 0 c.in-Ok.ensures.0 refl next handled.result.receiving handled.result.running line c.in-Ok.ensures.1 after running c.replying.ensures.line in
    record { outcome = said; premise = so_kept_beside s _ _ said Direction.receiving (kept_beside (Call.receive c.args.time bytes) lent (record { sound = c.requires.sound; carried = c.requires.carried })) }

pub returns-in-Err-clause-outcome : goal.returns-in-Err-clause-outcome
unfolding receive
returns-in-Err-clause-outcome c =
    let lent = held c.args.session c.args.running c.args.line.now in
    let bytes = c.args.message.now in
    let time = c.args.time in
    said_refused (refusal_number c.in-Err.refusal) (receive_refusal time bytes (length c.args.line.now) c.args.session) lent (replying bytes (after_message time bytes lent)) c.in-Err.ensures (never_none c.in-Err.refusal)
