-- What receiving does once nothing refuses the message: the direction after it, new or again, and the kept reply in the line buffer, whose
-- envelope is the message's own.
use mathlib.Core.Path.{◌≡◌, refl, ap, sym, ◌∙◌}
use mathlib.Core.Bool.{Bool, true, false, cond}
use mathlib.Core.List.{List}
use Prim.Native.Nat.{ℕ, suc}
use lib.ListN.{length}
use lib.Seq.{sets}
use borrow.Author.Tests.{eqb-true}
use Rattle.message.specs.declared.envelope.Envelope.{Envelope}
use Rattle.message.specs.declared.envelope.Kind.{Kind}
use Rattle.message.specs.Limits.{reply_room}
use Rattle.message.specs.Envelope.{serial_of, envelope_of, body_of}
use Rattle.message.specs.Reply.{written_reply_body}
use Rattle.message.specs.Line.{whole_reply}
use Rattle.message.proofs.Laws.Envelope.{whole_length}
use Rattle.session.specs.declared.session.Receiving.{Receiving}
use Rattle.session.specs.declared.session.Session.{Session}
use Rattle.session.specs.Parties.{receiving_route}
use Rattle.session.specs.declared.running.Running.{Running}
use Rattle.session.specs.Outcome.{Held, held, seen_at, with_receiving}
use Rattle.session.specs.Receiving.{receiving_after, is_next, is_expected, after_new, after_repeat, receive_refusal, replying, receive}
use Rattle.session.proofs.Laws.Refusals.{ReceiveTold, receive_told, last_told}
use Rattle.calls.proofs.Laws.Said.{said_done}
use Rattle.receiving.specs.Inner.Handled.{new_receiving, new_running}

module _ (time : ℕ) (bytes : List ℕ) (s : Session) (t : Running) (line : List ℕ) where
  abbrev h : Held
  h = held s t line

  abbrev r : Receiving
  r = s.receiving

  -- the direction and the running totals after a message, by whether it is new
  abbrev direction : Bool → Receiving
  direction new = cond new (new_receiving time (body_of bytes) s.parties t r) r

  abbrev gathered : Bool → Running
  gathered new = cond new (new_running time (body_of bytes) s.parties t r) t

  left_so : (new : Bool) → held (seen_at time (with_receiving (direction new) s)) (gathered new) line ≡ cond new (after_new time (body_of bytes) h) (after_repeat time h)
  left_so true = refl
  left_so false = refl

  -- its serial is the message's
  serial_so : (new : Bool) → is_next bytes r.serial ≡ new → is_expected bytes r.serial ≡ true → (direction new).serial ≡ serial_of bytes
  unfolding receiving_after
  serial_so true n k = sym (eqb-true (serial_of bytes) (suc r.serial) n)
  serial_so false n k = sym (last_told bytes r.serial n k)

  module _ (answer : ℕ) (chain : answer ≡ receive_refusal time bytes (length line) s) (none : answer ≡ 0) where
    pub told : ReceiveTold bytes h
    told = receive_told time bytes h (sym chain ∙ none)

    pub replied_so : (new : Bool) (after : Receiving) (running : Running) (now : List ℕ) → new ≡ is_next bytes r.serial → after ≡ direction new → running ≡ gathered new → now ≡ sets line 0 (whole_reply (record { route = receiving_route s.parties; serial = after.serial }) after.reply) → record { number = answer; written = reply_room; left = held (seen_at time (with_receiving after s)) running now } ≡ receive time bytes h
    unfolding receive
    replied_so new after running now n d g w =
        let own : ◌≡◌ {A = Envelope} (record { route = receiving_route s.parties; serial = after.serial }) (envelope_of bytes) = λ i. record { route = sym told.way i; serial = (ap (λ (x : Receiving). x.serial) d ∙ serial_so new (sym n) told.known) i } in
        let size : reply_room ≡ length (whole_reply (envelope_of bytes) after.reply) = sym (whole_length Kind.Reply (envelope_of bytes) (written_reply_body after.reply)) in
        let line-so = w ∙ ap (λ (e : Envelope). sets line 0 (whole_reply e after.reply)) own in
        let same : held (seen_at time (with_receiving after s)) running line ≡ cond (is_next bytes r.serial) (after_new time (body_of bytes) h) (after_repeat time h) = (λ i. held (seen_at time (with_receiving (d i) s)) (g i) line) ∙ left_so new ∙ ap (λ (b : Bool). cond b (after_new time (body_of bytes) h) (after_repeat time h)) n in
        (λ i. record { number = none i; written = size i; left = held (seen_at time (with_receiving after s)) running (line-so i) })
        ∙ ap (replying bytes) same
        ∙ said_done answer (receive_refusal time bytes (length line) s) h (replying bytes (cond (is_next bytes r.serial) (after_new time (body_of bytes) h) (after_repeat time h))) chain none
