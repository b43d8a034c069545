-- What the contracts of the lent calls say of a detail: one that is accepted is added to the running totals that are lent, and one that is
-- not leaves them. Here t are the running totals in place when the call is over.
use Prim.Native.Nat.{ℕ, zero, suc}
use native.Mathlib.Omega.{arith}
use mathlib.Core.Path.{◌≡◌, refl, ap, ◌∙◌, sym}
use mathlib.Core.Bool.{Bool, true, false, cond}
use mathlib.Core.List.{List}
use lib.Dec.{eqb}
use lib.ListN.{length}
use Rattle.std.specs.Prelude.{Ok}
use Rattle.codes.specs.Answer.{answer_number}
use Rattle.codes.specs.Body.{operation_of}
use Rattle.detail.specs.Groups.{documents}
use Rattle.message.specs.declared.content.Content.{Content}
use Rattle.message.specs.Content.{content_of}
use Rattle.message.specs.Envelope.{body_of}
use Rattle.session.specs.declared.counters.Counters.{Counters}
use Rattle.session.specs.declared.effect.Effect.{Effect}
use Rattle.session.specs.declared.running.Running.{Running}
use Rattle.session.specs.declared.session.Session.{Session}
use Rattle.session.specs.Running.{gather, detail_adds}
use Rattle.session.specs.Course.{course, advance}
use Rattle.session.specs.Outcome.{Held, held, Outcome, decided, silent}
use Rattle.session.specs.Reply.{is_accepted, reply_refusal, replied, take_reply}
use Rattle.session.specs.Receiving.{received_effect, earned_code, is_next, after_message, after_new, after_repeat, receive_refusal, replying, receive}
use Rattle.calls.specs.declared.called.Called.{Called}
use Rattle.calls.specs.Said.{called_said}
use Rattle.receiving.specs.declared.receive.Received.{Received}
use Rattle.receiving.specs.Said.{received_said}

-- a call that is not refused does what it does
done : (n : ℕ) (before : Held) (d o : Outcome) → o ≡ decided n before d → o.number ≡ 0 → o ≡ d
unfolding decided
done zero before d o e z = e
done (suc k) before d o e z = let same : suc k ≡ 0 = sym (ap (λ (p : Outcome). p.number) e) ∙ z in let no : ⊥ = omega arith in absurd no

-- a detail adds its documents if it is accepted
by_code : (accepted : Bool) (more : Running) (c : Counters) (h : Running) → (advance (Effect.Detail more) accepted (course c h)).running ≡ cond accepted (gather h more) h
unfolding advance
by_code true more c h = refl
by_code false more c h = refl

-- the reply call, where a detail awaits its reply
pub reply_adds : (time : ℕ) (bytes line : List ℕ) (s : Session) (h t more : Running) (r : Called) → called_said r t line ≡ take_reply time bytes (held s h line) → r.answer ≡ Ok tt → s.presenting.pending ≡ Effect.Detail more → t ≡ cond (is_accepted bytes) (gather h more) h
unfolding take_reply
reply_adds time bytes line s h t more r e is at =
    ap (λ (o : Outcome). o.left.running) (done (reply_refusal time bytes s) (held s h line) (silent (replied time (is_accepted bytes) (held s h line))) (called_said r t line) e (ap answer_number is))
    ∙ ap (λ (f : Effect). (advance f (is_accepted bytes) (course s.presenting.counters h)).running) at
    ∙ by_code (is_accepted bytes) more s.presenting.counters h

-- receiving, where a detail is the next message
pub receive_adds : (time : ℕ) (bytes before after : List ℕ) (s : Session) (h t : Running) (r : Received) → received_said r t after ≡ receive time bytes (held s h before) → r.answer ≡ Ok tt → is_next bytes s.receiving.serial ≡ true → content_of (body_of bytes) ≡ Content.Detail
    → t ≡ cond (eqb (earned_code time (body_of bytes) s.parties h s.receiving) 0) (gather h (detail_adds (operation_of (body_of bytes)) (documents (body_of bytes)))) h
unfolding receive received_effect
receive_adds time bytes before after s h t r e is next at =
    let body : List ℕ = body_of bytes in
    let accepted : Bool = eqb (earned_code time body s.parties h s.receiving) 0 in
    ap (λ (o : Outcome). o.left.running) (done (receive_refusal time bytes (length before) s) (held s h before) (replying bytes (after_message time bytes (held s h before))) (received_said r t after) e (ap answer_number is))
    ∙ ap (λ (new : Bool). (cond new (after_new time body (held s h before)) (after_repeat time (held s h before))).running) next
    ∙ ap (λ (c : Content). (advance (received_effect c body h) accepted (course s.receiving.counters h)).running) at
    ∙ by_code accepted (detail_adds (operation_of body) (documents body)) s.receiving.counters h
