-- What a call writes lies within its line buffer: where there is no room it is refused, with 23.
use mathlib.Core.Path.{◌≡◌, subst, sym}
use mathlib.Core.List.{List}
use Prim.Native.Nat.{ℕ, ◌≤◌}
use native.Mathlib.Omega.{arith}
use lib.ListN.{length}
use Rattle.message.specs.declared.envelope.Kind.{Kind}
use Rattle.message.specs.Envelope.{envelope_of}
use Rattle.message.specs.Reply.{written_reply_body}
use Rattle.message.specs.Line.{whole_message}
use Rattle.message.proofs.Laws.Envelope.{whole_length}
use Rattle.session.specs.declared.effect.Effect.{Effect}
use Rattle.session.specs.Parties.{Direction}
use Rattle.session.specs.Outcome.{Held, Outcome}
use Rattle.session.specs.Sending.{next_envelope, send_refusal, send, send_message}
use Rattle.session.specs.Receiving.{after_message, receive_refusal, receive}
use Rattle.session.specs.Reply.{take_reply}
use Rattle.session.specs.Clock.{clock}
use Rattle.session.specs.Engine.{Call, Engine, meaning, direction_of, lent, Performed, performed}
use Rattle.session.proofs.Laws.Decided.{either}
use Rattle.session.proofs.Laws.Refusals.{send_told, receive_told}

abbrev Within : (room : ℕ) → Outcome → Type 0
Within room o = o.written ≤ room

sent_within : (time code : ℕ) (effect : Effect) (body : List ℕ) (h : Held) → Within (length h.line) (send time code effect body h)
unfolding send
sent_within time code effect body h =
    either (Within (length h.line)) _ h _ (λ (k : ℕ). omega arith) (λ (e : send_refusal time code (length (whole_message (next_envelope h.session) body)) (length h.line) h.session ≡ 0). (send_told time code (length (whole_message (next_envelope h.session) body)) h e).room)

meant_within : (call : Call) (h : Held) → Within (length h.line) (meaning call h)
unfolding meaning send_message receive take_reply clock
meant_within (Call.send time x) h = sent_within time _ _ _ h
meant_within (Call.receive time bytes) h =
    either (Within (length h.line)) _ h _ (λ (k : ℕ). omega arith) (λ (e : receive_refusal time bytes (length h.line) h.session ≡ 0). subst (λ (n : ℕ). n ≤ length h.line) (sym (whole_length Kind.Reply (envelope_of bytes) (written_reply_body (after_message time bytes h).session.receiving.reply))) (receive_told time bytes h e).room)
meant_within (Call.reply time bytes) h = either (Within (length h.line)) _ h _ (λ (k : ℕ). omega arith) (λ e. omega arith)
meant_within (Call.clock time) h = either (Within (length h.line)) _ h _ (λ (k : ℕ). omega arith) (λ e. omega arith)
meant_within Call.report h = omega arith

pub written_within : (call : Call) (line : List ℕ) (e : Engine) (t : Performed) → t ≡ performed call line e → t.written ≤ length line
unfolding performed
written_within call line e t so = subst (λ (x : Performed). x.written ≤ length line) (sym so) (held_line (direction_of call))
  where
    held_line : (d : Direction) → Within (length line) (meaning call (lent d line e))
    held_line Direction.presenting = meant_within call (lent Direction.presenting line e)
    held_line Direction.receiving = meant_within call (lent Direction.receiving line e)
