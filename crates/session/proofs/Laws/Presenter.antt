-- The presenting end of a direction: whatever call is made there, the two ends stay joined.
use mathlib.Core.Path.{◌≡◌, refl, ap, sym, subst, ◌∙◌}
use mathlib.Core.Bool.{Bool, true, false, cond, false≢true}
use mathlib.Core.List.{List, [], ◌∷◌}
use mathlib.Core.Logic.{inl, inr}
use Prim.Native.Nat.{ℕ, suc, ◌+◌, ◌≤◌}
use native.Mathlib.Omega.{arith}
use lib.Dec.{eqb}
use lib.ListN.{length, take}
use lib.Seq.{sets}
use Rattle.std.specs.Prelude.{Option, Some, None}
use Rattle.std.proofs.lemmas.Option.{none-some, same_Some}
use Rattle.codes.proofs.Laws.Chain.{none_both}
use Rattle.detail.specs.Codes.{presenter_code}
use Rattle.detail.proofs.Laws.Codes.{accepted_part}
use Rattle.packed.specs.Pieces.{pieces}
use Rattle.packed.specs.Writing.{packed_byte}
use Rattle.document.specs.Limits.{document_bytes}
use Rattle.message.specs.declared.route.Route.{Route}
use Rattle.message.specs.declared.envelope.Kind.{Kind}
use Rattle.message.specs.declared.reply.Reply.{Reply}
use Rattle.message.specs.Reply.{written_reply_body}
use Rattle.message.specs.Limits.{envelope_bytes}
use Rattle.message.specs.Envelope.{length_good, serial_of, envelope_good, envelope_of, body_of}
use Rattle.message.specs.Line.{whole_message, whole_reply}
use Rattle.message.proofs.Laws.Line.{short}
use Rattle.message.proofs.Laws.Envelope.{body_told, whole_length, written_good}
use Rattle.session.specs.declared.counters.Course.{Course}
use Rattle.session.specs.declared.effect.Effect.{Effect}
use Rattle.session.specs.declared.session.Presenting.{Presenting}
use Rattle.session.specs.Parties.{presenting_route, Direction}
use Rattle.session.specs.declared.running.Running.{Running}
use Rattle.session.specs.Course.{advance}
use Rattle.session.specs.Sequence.{is_open}
use Rattle.session.specs.Outcome.{Held, Outcome, silent}
use Rattle.session.specs.Time.{clock_refusal}
use Rattle.session.specs.Sending.{header_body, posted, is_pending, next_envelope, send_refusal, sent, send, detail_stop, Send, send_stop, sent_effect, sent_body, send_message}
use Rattle.session.specs.Receiving.{is_next, receive_refusal, receive, after_new, after_repeat, replying}
use Rattle.session.specs.Reply.{is_accepted, reply_refusal, replied, take_reply}
use Rattle.session.specs.Clock.{ticked, clock}
use Rattle.session.specs.Premise.{PendingSound}
use Rattle.session.specs.Ledger.{Entry, Ledger, enter, sent_entry, body_entry, numbers, Distinct}
use Rattle.session.specs.Engine.{Call, Engine, said_by, meaning, lent, performed, Ready}
use Rattle.session.specs.Ends.{End, Event, WrittenBefore, Brought}
use Rattle.session.specs.Entering.{Waiting, PresenterLedger, waiting_for, enter_waiting, answered_with, presenter_enters}
use Rattle.session.proofs.Laws.Decided.{either, said_in, first_bytes}
use Rattle.session.proofs.Laws.Refusals.{SendTold, send_told, ReceiveTold, receive_told, ReplyTold, reply_told}
use Rattle.session.proofs.Laws.Ledger.{summary, open_of, Finds, effect_of, detail_sum, mirrors}
use Rattle.session.proofs.Laws.Line.{accepts, MessageFact, ReplyFact, message_no_reply, route_told, serial_read}
use Rattle.session.proofs.Laws.Joined.{OnLine, waiting_effect, event_of, Link, PresentingEnd, ReceivingEnd, presenting_end, Joined, passed_by, refused_by, not_entered}
use Rattle.session.proofs.Laws.Foreign.{Foreign, nothing_foreign, next_fits, reply_foreign}
use Rattle.session.proofs.Laws.Written.{header_takes, detail_long}
use Rattle.session.proofs.Laws.Entries.{header_entry, detail_entry, lot_total_entry, session_total_entry, open_lot_same}

pub pending_some : (e : Entry) (b : Ledger) → is_pending (effect_of e b) ≡ true
pending_some (Entry.header number) b = refl
pending_some (Entry.detail ds) b = refl
pending_some Entry.lot_total b = refl
pending_some Entry.session_total b = refl

module _ (x : End) (e : Engine) (ready : Ready e) (different : e.session.parties.own ≡ e.session.parties.partner → ⊥) (r : ReceivingEnd) (bp : PresenterLedger) (trace : List Event) where
  abbrev route : Route
  route = presenting_route e.session.parties

  abbrev p : Presenting
  p = e.session.presenting

  abbrev pt : Running
  pt = e.presenting

  abbrev here : PresentingEnd
  here = presenting_end p pt bp

  module _ (j : Joined route here r trace) where
    -- what is pending, where an entry waits
    pending_is : (m : Waiting) → bp.waiting ≡ Some m → p.pending ≡ effect_of m.entry bp.ledger
    pending_is m w = j.presenter.pending ∙ ap (λ (o : Option Waiting). waiting_effect o bp.ledger) w

    -- the ends after a call with this outcome, in which the running totals are the call's own or not
    abbrev After : Call → Running → Outcome → Type 0
    After call t o = Joined route (presenting_end o.left.session.presenting t (cond (eqb o.number 0) (presenter_enters call (said_in o).bytes bp) bp)) r (record { at = x; call = call; said = said_in o } ∷ trace)

    refused_after : (call : Call) (k : ℕ) → Joined route (presenting_end p pt (cond (eqb (suc k) 0) (presenter_enters call [] bp) bp)) r (event_of x call (suc k) [] ∷ trace)
    refused_after call k = subst (λ (b : PresenterLedger). Joined route (presenting_end p pt b) r (event_of x call (suc k) [] ∷ trace)) (sym (not_entered k (presenter_enters call [] bp) bp)) (refused_by route here r trace j (event_of x call (suc k) []) k refl)

    -- what a send that nothing stops awaits is its entry's, and its body reads as that
    record SentSo (h : Held) (m : Send) : Type 0 where
      awaits : sent_effect m h ≡ effect_of (sent_entry m) bp.ledger
      reads : body_entry (sent_body m h) ≡ Some (sent_entry m)
      long : length_good Kind.Message (envelope_bytes + length (sent_body m h)) ≡ true

    module _ (time : ℕ) (m : Send) (line : List ℕ) where
      abbrev h : Held
      h = lent Direction.presenting line e

      abbrev code : ℕ
      code = send_stop m time h

      abbrev effect : Effect
      effect = sent_effect m h

      abbrev body : List ℕ
      body = sent_body m h

      abbrev bytes : List ℕ
      bytes = whole_message (next_envelope e.session) body

      abbrev event : Event
      event = event_of x (Call.send time m) 0 bytes

      abbrev waiting : Waiting
      waiting = record { entry = sent_entry m; message = bytes }

      -- the message is on the line, and waits
      sent_joined : SendTold code (length bytes) h → SentSo h m → Joined route (presenting_end (sent time effect e.session).presenting pt (waiting_for (sent_entry m) bytes bp)) r (event ∷ trace)
      sent_joined told so =
          record {
            presenter = record { course = j.presenter.course; pending = so.awaits; once = j.presenter.once };
            receiver = j.receiver;
            seen = j.seen;
            link = linked j.link;
            waits = on_line;
            messages = all_messages;
            replies = all_replies;
          }
        where
          on_line : (m : Waiting) → Some waiting ≡ Some m → OnLine route (suc p.serial) m (event ∷ trace)
          on_line m same =
              let fit = next_fits e.session ready.sound told.more in
              subst (λ (x : Waiting). OnLine route (suc p.serial) x (event ∷ trace)) (same_Some waiting m same)
              (record {
                written = inl (refl, refl);
                good = written_good Kind.Message (next_envelope e.session) body fit so.long;
                way = route_told Kind.Message (next_envelope e.session) body fit;
                numbered = serial_read Kind.Message (next_envelope e.session) body fit;
                reads = ap body_entry (body_told Kind.Message (next_envelope e.session) body) ∙ so.reads;
              })

          waits : (m : Waiting) → bp.waiting ≡ Some m → ⊥
          waits m w = false≢true (sym told.idle ∙ ap is_pending (pending_is m w) ∙ pending_some m.entry bp.ledger)

          linked : Link p r.state bp.waiting bp.ledger r.entered.ledger → Link (sent time effect e.session).presenting r.state (Some waiting) bp.ledger r.entered.ledger
          linked (Link.idle w s b) = Link.sent waiting refl (ap suc s) b
          linked (Link.sent d w s b) = absurd (waits d w)
          linked (Link.taken d w s b o) = absurd (waits d w)

          all_messages : (b : List ℕ) → WrittenBefore b (event ∷ trace) → MessageFact route (suc p.serial) (Some waiting) b
          all_messages b (inl w) =
              subst (MessageFact route (suc p.serial) (Some waiting)) w.1
              (λ (g : envelope_good Kind.Message bytes ≡ true) (way : (envelope_of bytes).route ≡ route). (
                omega (arith, serial_read Kind.Message (next_envelope e.session) body (next_fits e.session ready.sound told.more)),
                λ (m : Waiting) (s : serial_of bytes ≡ suc p.serial) (same : Some waiting ≡ Some m). ap body_entry (body_told Kind.Message (next_envelope e.session) body) ∙ so.reads ∙ ap (λ (x : Waiting). Some x.entry) (same_Some waiting m same),
              ))
          all_messages b (inr w) =
              λ (g : envelope_good Kind.Message b ≡ true) (way : (envelope_of b).route ≡ route).
              let old = (j.messages b w g way).0 in
              (omega (arith, old), λ (m : Waiting) (s : serial_of b ≡ suc p.serial) (same : Some waiting ≡ Some m). absurd (omega (arith, old, s)))

          all_replies : (b : List ℕ) → WrittenBefore b (event ∷ trace) → ReplyFact route r.state.serial r.state.reply.code b
          all_replies b (inl w) = subst (ReplyFact route r.state.serial r.state.reply.code) w.1 (λ (g : envelope_good Kind.Reply bytes ≡ true) (way : (envelope_of bytes).route ≡ route). absurd (message_no_reply (next_envelope e.session) body g))
          all_replies b (inr w) = j.replies b w

      -- so for every send, whose code lets nothing else pass
      send_after : (code ≡ 0 → SentSo h m) → After (Call.send time m) (send_message time m h).left.running (send_message time m h)
      unfolding send_message send
      send_after fits =
          either (λ (o : Outcome). After (Call.send time m) o.left.running o) (send_refusal time code (length bytes) (length h.line) h.session) h (posted time effect body h)
          (λ (k : ℕ). refused_after (Call.send time m) k)
          (λ (z : send_refusal time code (length bytes) (length h.line) h.session ≡ 0).
          let told = send_told time code (length bytes) h z in
          subst (λ (w : List ℕ). Joined route (presenting_end (sent time effect e.session).presenting pt (waiting_for (sent_entry m) w bp)) r (event_of x (Call.send time m) 0 w ∷ trace)) (sym (first_bytes bytes line told.room)) (sent_joined told (fits told.unstopped)))

    -- a reply enters what waits, with the code that the receiver kept
    module _ (time : ℕ) (bytes line : List ℕ) where
      abbrev reply_held : Held
      reply_held = lent Direction.presenting line e

      finds : (m : Waiting) → bp.waiting ≡ Some m → Finds m.entry (open_of bp.ledger.current)
      finds m w = go m.entry (subst (λ (f : Effect). PendingSound f p.counters) (pending_is m w) ready.sound.pending)
        where
          same_open : p.counters.current ≡ open_of bp.ledger.current
          same_open = ap (λ (k : Course). k.counters.current) j.presenter.course

          go : (d : Entry) → PendingSound (effect_of d bp.ledger) p.counters → Finds d (open_of bp.ledger.current)
          go (Entry.header number) s = tt
          go (Entry.detail ds) s = sym (ap is_open same_open) ∙ s
          go Entry.lot_total s = sym (ap is_open same_open) ∙ ap is_open s
          go Entry.session_total s = tt

      entered : (m : Waiting) (accepted : Bool) → bp.waiting ≡ Some m → advance p.pending accepted (record { counters = p.counters; running = pt }) ≡ summary (enter m.entry accepted bp.ledger)
      entered m accepted w = (λ i. advance ((pending_is m w) i) accepted (j.presenter.course i)) ∙ mirrors m.entry accepted bp.ledger (λ (h : accepted ≡ true). finds m w)

      replied_joined : WrittenBefore bytes trace → ReplyTold bytes e.session → Joined route (presenting_end (replied time (is_accepted bytes) reply_held).session.presenting (replied time (is_accepted bytes) reply_held).running (answered_with (is_accepted bytes) bp)) r trace
      replied_joined brought told = go j.link
        where
          go : Link p r.state bp.waiting bp.ledger r.entered.ledger → Joined route (presenting_end (replied time (is_accepted bytes) reply_held).session.presenting (replied time (is_accepted bytes) reply_held).running (answered_with (is_accepted bytes) bp)) r trace
          go (Link.idle w s b) = absurd (false≢true (ap is_pending (sym (ap (λ (o : Option Waiting). waiting_effect o bp.ledger) w) ∙ sym j.presenter.pending) ∙ told.awaited))
          go (Link.sent d w s b) = absurd (omega (arith, told.serial, s, (j.replies bytes brought told.good told.way).0))
          go (Link.taken m w s b o) =
              let accepted = is_accepted bytes in
              let same : accepted ≡ accepts r.state.reply.code = (j.replies bytes brought told.good told.way).1 (told.serial ∙ s) in
              let after : (answered_with accepted bp).ledger ≡ enter m.entry accepted bp.ledger = ap (λ (o : Option Waiting). enter_waiting accepted o bp.ledger) w in
              let level : (answered_with accepted bp).ledger ≡ r.entered.ledger = after ∙ ap (λ (t : Bool). enter m.entry t bp.ledger) same ∙ sym b in
              record {
                presenter = record { course = entered m accepted w ∙ ap summary (sym after); pending = refl; once = subst (λ (l : Ledger). Distinct (numbers l.lots)) (sym level) j.receiver.once };
                receiver = j.receiver;
                seen = j.seen;
                link = Link.idle refl s level;
                waits = λ (m : Waiting) (waits : None ≡ Some m). absurd (none-some m waits);
                messages =
                    λ (b : List ℕ) (w : WrittenBefore b trace) (g : envelope_good Kind.Message b ≡ true) (way : (envelope_of b).route ≡ route).
                    ((j.messages b w g way).0, λ (m : Waiting) (q : serial_of b ≡ p.serial) (waits : None ≡ Some m). absurd (none-some m waits));
                replies = j.replies;
              }

      reply_after : WrittenBefore bytes trace → After (Call.reply time bytes) (take_reply time bytes reply_held).left.running (take_reply time bytes reply_held)
      unfolding take_reply
      reply_after brought =
          either (λ (o : Outcome). After (Call.reply time bytes) o.left.running o) (reply_refusal time bytes e.session) reply_held _
          (λ (k : ℕ). refused_after (Call.reply time bytes) k)
          (λ (z : reply_refusal time bytes e.session ≡ 0).
          passed_by route (presenting_end _ _ _) r trace (replied_joined brought (reply_told time bytes e.session z)) _ (λ (n : 0 ≡ 0). nothing_foreign route))

    -- what arrives here is of the other direction
    foreign_reply : (time : ℕ) (bytes line : List ℕ) (reply : Reply) → ReceiveTold bytes (lent Direction.receiving line e) → Joined route here r (event_of x (Call.receive time bytes) 0 (take (length (whole_reply (envelope_of bytes) reply)) (sets line 0 (whole_reply (envelope_of bytes) reply))) ∷ trace)
    foreign_reply time bytes line reply told =
        let whole = whole_reply (envelope_of bytes) reply in
        let room : length whole ≤ length line = omega (arith, told.room, whole_length Kind.Reply (envelope_of bytes) (written_reply_body reply)) in
        passed_by route here r trace j _ (λ (n : 0 ≡ 0). subst (Foreign route) (sym (first_bytes whole line room)) (reply_foreign e.session ready.sound different bytes reply told.good told.way))

    message_after : (time : ℕ) (bytes line : List ℕ) → After (Call.receive time bytes) pt (receive time bytes (lent Direction.receiving line e))
    unfolding receive
    message_after time bytes line =
        let h = lent Direction.receiving line e in
        either (After (Call.receive time bytes) pt) (receive_refusal time bytes (length h.line) h.session) h _
        (λ (k : ℕ). refused_after (Call.receive time bytes) k)
        (λ (z : receive_refusal time bytes (length h.line) h.session ≡ 0). go (is_next bytes e.session.receiving.serial) (receive_told time bytes h z))
      where
        go : (t : Bool) → ReceiveTold bytes (lent Direction.receiving line e) → After (Call.receive time bytes) pt (replying bytes (cond t (after_new time (body_of bytes) (lent Direction.receiving line e)) (after_repeat time (lent Direction.receiving line e))))
        go true told = foreign_reply time bytes line _ told
        go false told = foreign_reply time bytes line _ told

    tick_after : (time : ℕ) (line : List ℕ) → After (Call.clock time) (clock time (lent Direction.presenting line e)).left.running (clock time (lent Direction.presenting line e))
    unfolding clock
    tick_after time line =
        either (λ (o : Outcome). After (Call.clock time) o.left.running o) (clock_refusal time e.session.seen e.session.close) (lent Direction.presenting line e) (silent (record { session = ticked time e.session; running = pt; line = line }))
        (λ (k : ℕ). refused_after (Call.clock time) k)
        (λ (z : clock_refusal time e.session.seen e.session.close ≡ 0). passed_by route here r trace j _ (λ (n : 0 ≡ 0). nothing_foreign route))

    -- what a presenter's own code lets pass is a message that its receiver reads as it was meant
    sent_so : (time : ℕ) (m : Send) (line : List ℕ) → let h = lent Direction.presenting line e in send_stop m time h ≡ 0 → SentSo h m
    unfolding detail_stop
    sent_so time (Send.header moment centre number) line z =
        record {
          awaits = refl;
          reads = header_entry route (record { time = moment; centre = centre; number = number }) (header_takes e.session ready.sound time moment centre number z);
          long = short route (header_body moment centre number);
        }
    sent_so time (Send.detail operation part) line z =
        let own = (none_both (presenter_code operation e.session.parties.partner part) _ z).0 in
        let may = (accepted_part operation e.session.parties.partner part own).0 in
        record { awaits = ap Effect.Detail (sym (detail_sum (packed_byte operation) (pieces document_bytes part))); reads = detail_entry operation part may; long = detail_long operation part may }
    sent_so time Send.lot_total line z = record { awaits = ap Effect.LotTotal (open_lot_same p.counters pt bp.ledger j.presenter.course); reads = lot_total_entry route _; long = short route _ }
    sent_so time Send.session_total line z = record { awaits = refl; reads = session_total_entry route _; long = short route _ }

    pub presenter_step : (call : Call) (line : List ℕ) → Brought call trace → let d = performed call line e in Joined route (presenting_end d.engine.session.presenting d.engine.presenting (cond (eqb (said_by d).number 0) (presenter_enters call (said_by d).bytes bp) bp)) r (record { at = x; call = call; said = said_by d } ∷ trace)
    unfolding performed meaning
    presenter_step (Call.send time m) line brought = send_after time m line (sent_so time m line)
    presenter_step (Call.receive time bytes) line brought = message_after time bytes line
    presenter_step (Call.reply time bytes) line brought = reply_after time bytes line brought
    presenter_step (Call.clock time) line brought = tick_after time line
    presenter_step Call.report line brought = passed_by route here r trace j _ (λ (n : 0 ≡ 0). nothing_foreign route)
