-- The receiving end of a direction: whatever call is made there, the two ends stay joined.
use mathlib.Core.Path.{◌≡◌, refl, ap, sym, subst, ◌∙◌}
use mathlib.Core.Bool.{Bool, true, false, ◌||◌, cond, false≢true}
use mathlib.Core.List.{List, [], ◌∷◌}
use mathlib.Core.Logic.{◌⊎◌, inl, inr}
use Prim.Native.Nat.{ℕ, suc, ◌≤◌, ◌<◌}
use native.Mathlib.Omega.{arith}
use lib.Dec.{eqb}
use lib.ListN.{length}
use borrow.Author.Tests.{eqb-true, eq-eqb}
use Rattle.std.specs.Prelude.{Option, Some, None}
use Rattle.codes.proofs.Laws.Code.{accepts as code-accepts}
use Rattle.packed.specs.Every.{member}
use Rattle.message.specs.declared.route.Route.{Route}
use Rattle.message.specs.declared.envelope.Kind.{Kind}
use Rattle.message.specs.declared.reply.Reply.{Reply}
use Rattle.message.specs.Envelope.{serial_of, envelope_good, envelope_of, body_of}
use Rattle.message.specs.Content.{content_of}
use Rattle.message.specs.declared.reply.ReplyOperation.{ReplyOperation}
use Rattle.message.specs.Reply.{written_reply_body}
use Rattle.message.specs.Line.{whole_message, whole_reply}
use Rattle.message.proofs.Laws.Envelope.{serial_told, whole_length}
use Rattle.session.specs.Parties.{Direction, receiving_route}
use Rattle.session.specs.declared.session.Receiving.{Receiving}
use Rattle.session.specs.Limits.{most_lots}
use Rattle.session.specs.declared.running.Running.{Running}
use Rattle.session.specs.Sequence.{is_open}
use Rattle.session.specs.Outcome.{Held, Outcome}
use Rattle.session.specs.Time.{clock_refusal}
use Rattle.session.specs.Sending.{next_envelope, send_refusal, send, Send, send_stop, sent_body, send_message}
use Rattle.session.specs.Receiving.{is_next, earned_code, received_effect, receiving_course, receiving_after, receive_refusal, receive, after_new, after_repeat, replying}
use Rattle.session.specs.Reply.{is_accepted, reply_refusal, take_reply}
use Rattle.session.specs.Clock.{clock}
use Rattle.session.specs.Premise.{OpenSound}
use Rattle.session.specs.Ledger.{Entry, enter_read, body_entry, received_entry}
use Rattle.message.specs.declared.content.Content.{Content}
use Rattle.message.specs.Reply.{operation_for}
use Rattle.session.specs.Engine.{Call, Engine, said_by, meaning, lent, performed, Ready}
use Rattle.session.specs.Ends.{End, Event, WrittenBefore, Brought}
use Rattle.session.specs.Entering.{ReceiverLedger, first_received, receiver_enters}
use Rattle.session.proofs.Laws.Decided.{either, said_in, first_bytes}
use Rattle.session.proofs.Laws.Refusals.{send_told, ReceiveTold, receive_told, last_told}
use Rattle.session.proofs.Laws.Allowed.{Allowed, received_allowed}
use Rattle.session.proofs.Laws.Line.{accepts, MessageFact, ReplyFact, reply_no_message, serial_read, code_read}
use Rattle.session.proofs.Laws.Lists.{next_unseen, up_to_next}
use Rattle.session.proofs.Laws.Joined.{reply_for, still, event_of, Mirrored, Link, Joined, passed_by, refused_by, not_entered, PresentingEnd, ReceivingEnd, receiving_end}
use Rattle.session.proofs.Laws.Mirror.{course_mirrors, lots_mirror, numbers_mirror, free_header}
use Rattle.session.proofs.Laws.Foreign.{Foreign, nothing_foreign, message_foreign, reply_fits}

-- an open lot has a place among the accepted ones
has_room : (lot : Option ℕ) (lots : ℕ) → OpenSound lot lots → is_open lot ≡ true → lots < most_lots
has_room None lots s e = absurd (false≢true e)
has_room (Some n) lots s e = s.1

-- the reply to a body has the operation of what it is read as
abbrev pub reply_for_read : Option Entry → ReplyOperation
reply_for_read None = ReplyOperation.Other
reply_for_read (Some e) = reply_for e

pub reply_entry : (body : List ℕ) → operation_for (content_of body) ≡ reply_for_read (body_entry body)
unfolding received_entry
reply_entry body = go (content_of body)
  where
    go : (c : Content) → operation_for c ≡ reply_for_read (received_entry c body)
    go Content.Header = refl
    go Content.Detail = refl
    go Content.LotTotal = refl
    go Content.SessionTotal = refl
    go Content.Unknown = refl

module _ (x : End) (e : Engine) (ready : Ready e) (different : e.session.parties.own ≡ e.session.parties.partner → ⊥) (p : PresentingEnd) (br : ReceiverLedger) (trace : List Event) where
  abbrev route : Route
  route = receiving_route e.session.parties

  abbrev r : Receiving
  r = e.session.receiving

  abbrev rt : Running
  rt = e.receiving

  abbrev here : ReceivingEnd
  here = receiving_end r rt br

  module _ (j : Joined route p here trace) where
    abbrev After : Call → Running → Outcome → Type 0
    After call t o = Joined route p (receiving_end o.left.session.receiving t (cond (eqb o.number 0) (receiver_enters call (said_in o).bytes br) br)) (record { at = x; call = call; said = said_in o } ∷ trace)

    refused_after : (call : Call) (k : ℕ) → Joined route p (receiving_end r rt (cond (eqb (suc k) 0) (receiver_enters call [] br) br)) (event_of x call (suc k) [] ∷ trace)
    refused_after call k = subst (λ (b : ReceiverLedger). Joined route p (receiving_end r rt b) (event_of x call (suc k) [] ∷ trace)) (sym (not_entered k (receiver_enters call [] br) br)) (refused_by route p here trace j (event_of x call (suc k) []) k refl)

    -- what is sent from here is of the other direction
    send_after : (time : ℕ) (m : Send) (line : List ℕ) → After (Call.send time m) rt (send_message time m (lent Direction.presenting line e))
    unfolding send_message send
    send_after time m line =
        let h = lent Direction.presenting line e in
        let bytes = whole_message (next_envelope e.session) (sent_body m h) in
        either (After (Call.send time m) rt) (send_refusal time (send_stop m time h) (length bytes) (length h.line) h.session) h _
        (λ (k : ℕ). refused_after (Call.send time m) k)
        (λ (z : send_refusal time (send_stop m time h) (length bytes) (length h.line) h.session ≡ 0).
        let told = send_told time (send_stop m time h) (length bytes) h z in
        passed_by route p here trace j _ (λ (n : 0 ≡ 0). subst (Foreign route) (sym (first_bytes bytes line told.room)) (message_foreign e.session ready.sound different (sent_body m h) told.more)))

    reply_after : (time : ℕ) (bytes line : List ℕ) → After (Call.reply time bytes) rt (take_reply time bytes (lent Direction.presenting line e))
    unfolding take_reply
    reply_after time bytes line =
        either (After (Call.reply time bytes) rt) (reply_refusal time bytes e.session) (lent Direction.presenting line e) _
        (λ (k : ℕ). refused_after (Call.reply time bytes) k)
        (λ (z : reply_refusal time bytes e.session ≡ 0). passed_by route p here trace j _ (λ (n : 0 ≡ 0). nothing_foreign route))

    tick_after : (time : ℕ) (line : List ℕ) → After (Call.clock time) rt (clock time (lent Direction.presenting line e))
    unfolding clock
    tick_after time line =
        either (After (Call.clock time) rt) (clock_refusal time e.session.seen e.session.close) (lent Direction.presenting line e) _
        (λ (k : ℕ). refused_after (Call.clock time) k)
        (λ (z : clock_refusal time e.session.seen e.session.close ≡ 0). passed_by route p here trace j _ (λ (n : 0 ≡ 0). nothing_foreign route))

    module _ (time : ℕ) (bytes line : List ℕ) (brought : WrittenBefore bytes trace) (told : ReceiveTold bytes (lent Direction.receiving line e)) where
      abbrev h : Held
      h = lent Direction.receiving line e

      abbrev body : List ℕ
      body = body_of bytes

      abbrev code : ℕ
      code = earned_code time body e.session.parties rt r

      -- the reply of this serial with some code, kept by the receiver, is on the line beside all earlier ones
      module _ (after : Receiving) (reply : Reply) (serial : serial_of bytes ≡ after.serial) (kept_reply : after.reply ≡ reply) where
        abbrev whole : List ℕ
        whole = whole_reply (envelope_of bytes) reply

        abbrev event : Event
        event = event_of x (Call.receive time bytes) 0 whole

        fits : length whole ≤ length line
        fits = omega (arith, told.room, whole_length Kind.Reply (envelope_of bytes) (written_reply_body reply))

        all_messages : (b : List ℕ) → WrittenBefore b (event ∷ trace) → MessageFact route p.state.serial p.entered.waiting b
        all_messages b (inl w) = subst (MessageFact route p.state.serial p.entered.waiting) w.1 (λ (g : envelope_good Kind.Message whole ≡ true) (way : (envelope_of whole).route ≡ route). absurd (reply_no_message (envelope_of bytes) reply g))
        all_messages b (inr w) = j.messages b w

        all_replies : ((b : List ℕ) → WrittenBefore b trace → ReplyFact route after.serial after.reply.code b) → (b : List ℕ) → WrittenBefore b (event ∷ trace) → ReplyFact route after.serial after.reply.code b
        all_replies old b (inl w) =
            subst (ReplyFact route after.serial after.reply.code) w.1
            (λ (g : envelope_good Kind.Reply whole ≡ true) (way : (envelope_of whole).route ≡ route).
            let read = serial_read Kind.Reply (envelope_of bytes) (written_reply_body reply) (reply_fits e.session ready.sound bytes told.good told.way) ∙ serial in
            (omega (arith, read), λ (s : serial_of whole ≡ after.serial). code_read (envelope_of bytes) reply ∙ ap (λ (q : Reply). accepts q.code) (sym kept_reply)))
        all_replies old b (inr w) = old b w

      -- a new message is entered on both sides with the same code
      abbrev kept : Reply
      kept = (receiving_after code body rt r).reply

      abbrev entered : ReceiverLedger
      entered = record { ledger = enter_read (body_entry body) (eqb code 0) br.ledger; serials = suc r.serial ∷ br.serials }

      replied_code : is_accepted (whole_reply (envelope_of bytes) kept) ≡ eqb code 0
      unfolding receiving_after
      replied_code = code_read (envelope_of bytes) kept ∙ code-accepts code

      first_time : serial_of bytes ≡ suc r.serial → first_received (serial_of bytes) (body_entry body) (is_accepted (whole_reply (envelope_of bytes) kept)) br ≡ entered
      first_time next =
          ap (λ (t : Bool). cond t br (record { ledger = enter_read (body_entry body) (is_accepted (whole_reply (envelope_of bytes) kept)) br.ledger; serials = serial_of bytes ∷ br.serials })) (ap (λ (n : ℕ). member n br.serials) next ∙ next_unseen r.serial br.serials j.seen.earlier)
          ∙ λ i. record { ledger = enter_read (body_entry body) (replied_code i) br.ledger; serials = next i ∷ br.serials }

      mirrored : Mirrored (receiving_after code body rt r) (receiving_course code body rt r).running entered.ledger
      unfolding receiving_after
      mirrored =
          let c = content_of body in
          let m = j.receiver in
          let allowed : eqb code 0 ≡ true → Allowed (received_effect c body rt) (record { counters = r.counters; running = rt }) = λ (t : eqb code 0 ≡ true). received_allowed time body e.session.parties rt r ready.receiving.fits c (eqb-true code 0 t) in
          let numbers = numbers_mirror r rt br.ledger m body c (eqb code 0) allowed (λ (t : eqb code 0 ≡ true). free_header r rt br.ledger m body time e.session.parties c (eqb-true code 0 t)) in
          record {
            course = course_mirrors r rt br.ledger m body c (eqb code 0) allowed;
            kept = lots_mirror r rt br.ledger m body c (eqb code 0) allowed (λ (o : is_open r.counters.current ≡ true). omega (arith, has_room r.counters.current r.counters.lots ready.sound.receiving.open_lot o, ready.sound.places));
            once = numbers.0;
            new = numbers.1;
          }

      linked : serial_of bytes ≡ suc r.serial → Link p.state r p.entered.waiting p.entered.ledger br.ledger → Link p.state (receiving_after code body rt r) p.entered.waiting p.entered.ledger entered.ledger
      unfolding receiving_after
      linked next (Link.idle w s b) = absurd (omega (arith, next, s, (j.messages bytes brought told.good told.way).0))
      linked next (Link.taken d w s b o) = absurd (omega (arith, next, s, (j.messages bytes brought told.good told.way).0))
      linked next (Link.sent m w s b) =
          let reads : body_entry body ≡ Some m.entry = (j.messages bytes brought told.good told.way).1 m (next ∙ sym s) w in
          Link.taken m w s (λ i. enter_read (reads i) (sym (code-accepts code) i) (sym b i)) (reply_entry body ∙ ap reply_for_read reads)

      taken_joined : serial_of bytes ≡ suc r.serial → Joined route p (receiving_end (receiving_after code body rt r) (receiving_course code body rt r).running entered) (event_of x (Call.receive time bytes) 0 (whole_reply (envelope_of bytes) kept) ∷ trace)
      unfolding receiving_after member
      taken_joined next =
          record {
            presenter = j.presenter;
            receiver = mirrored;
            seen = record { earlier = up_to_next r.serial br.serials j.seen.earlier; last_seen = inr (ap (λ (t : Bool). t || member (suc r.serial) br.serials) (eq-eqb (suc r.serial) (suc r.serial) refl)) };
            link = linked next j.link;
            waits = still route p here trace j (event_of x (Call.receive time bytes) 0 (whole_reply (envelope_of bytes) kept));
            messages = all_messages (receiving_after code body rt r) kept next refl;
            replies =
                all_replies (receiving_after code body rt r) kept next refl
                (λ (b : List ℕ) (w : WrittenBefore b trace) (g : envelope_good Kind.Reply b ≡ true) (way : (envelope_of b).route ≡ route).
                let old = (j.replies b w g way).0 in
                (omega (arith, old), λ (s : serial_of b ≡ suc r.serial). absurd (omega (arith, old, s))));
          }

      -- a repeat writes the kept reply once more and enters nothing
      seen_before : serial_of bytes ≡ r.serial → member (serial_of bytes) br.serials ≡ true
      seen_before same = ap (λ (n : ℕ). member n br.serials) same ∙ go j.seen.last_seen
        where
          go : (r.serial ≡ 0) ⊎ (member r.serial br.serials ≡ true) → member r.serial br.serials ≡ true
          go (inl z) = absurd (omega (arith, z, same, (serial_told Kind.Message bytes told.good).0))
          go (inr m) = m

      not_again : serial_of bytes ≡ r.serial → (accepted : Bool) → first_received (serial_of bytes) (body_entry body) accepted br ≡ br
      not_again same accepted = ap (λ (t : Bool). cond t br (record { ledger = enter_read (body_entry body) accepted br.ledger; serials = serial_of bytes ∷ br.serials })) (seen_before same)

      repeated_joined : serial_of bytes ≡ r.serial → Joined route p here (event_of x (Call.receive time bytes) 0 (whole_reply (envelope_of bytes) r.reply) ∷ trace)
      repeated_joined same =
          record {
            presenter = j.presenter;
            receiver = j.receiver;
            seen = j.seen;
            link = j.link;
            waits = still route p here trace j (event_of x (Call.receive time bytes) 0 (whole_reply (envelope_of bytes) r.reply));
            messages = all_messages r r.reply same refl;
            replies = all_replies r r.reply same refl j.replies;
          }

    message_after : (time : ℕ) (bytes line : List ℕ) → WrittenBefore bytes trace → After (Call.receive time bytes) (receive time bytes (lent Direction.receiving line e)).left.running (receive time bytes (lent Direction.receiving line e))
    unfolding receive receiving_after
    message_after time bytes line brought =
        let h = lent Direction.receiving line e in
        either (λ (o : Outcome). After (Call.receive time bytes) o.left.running o) (receive_refusal time bytes (length h.line) h.session) h _
        (λ (k : ℕ). refused_after (Call.receive time bytes) k)
        (λ (z : receive_refusal time bytes (length h.line) h.session ≡ 0). go (is_next bytes r.serial) refl (receive_told time bytes h z))
      where
        go : (t : Bool) → is_next bytes r.serial ≡ t → ReceiveTold bytes (lent Direction.receiving line e) → let o = replying bytes (cond t (after_new time (body_of bytes) (lent Direction.receiving line e)) (after_repeat time (lent Direction.receiving line e))) in After (Call.receive time bytes) o.left.running o
        go true n told =
            let next = eqb-true (serial_of bytes) (suc r.serial) n in
            let code = earned_code time (body_of bytes) e.session.parties rt r in
            let after = receiving_after code (body_of bytes) rt r in
            let running = (receiving_course code (body_of bytes) rt r).running in
            let whole = whole_reply (envelope_of bytes) after.reply in
            subst (λ (w : List ℕ). Joined route p (receiving_end after running (receiver_enters (Call.receive time bytes) w br)) (event_of x (Call.receive time bytes) 0 w ∷ trace)) (sym (first_bytes whole line (fits time bytes line brought told after after.reply next refl)))
            (subst (λ (b : ReceiverLedger). Joined route p (receiving_end after running b) (event_of x (Call.receive time bytes) 0 whole ∷ trace)) (sym (first_time time bytes line brought told next)) (taken_joined time bytes line brought told next))
        go false n told =
            let same = last_told bytes r.serial n told.known in
            let whole = whole_reply (envelope_of bytes) r.reply in
            let event : List ℕ → Event = λ (w : List ℕ). event_of x (Call.receive time bytes) 0 w in
            subst (λ (w : List ℕ). Joined route p (receiving_end r rt (receiver_enters (Call.receive time bytes) w br)) (event w ∷ trace)) (sym (first_bytes whole line (fits time bytes line brought told r r.reply same refl)))
            (subst (λ (b : ReceiverLedger). Joined route p (receiving_end r rt b) (event whole ∷ trace)) (sym (not_again time bytes line brought told same (is_accepted whole))) (repeated_joined time bytes line brought told same))

    pub receiver_step : (call : Call) (line : List ℕ) → Brought call trace → let d = performed call line e in Joined route p (receiving_end d.engine.session.receiving d.engine.receiving (cond (eqb (said_by d).number 0) (receiver_enters call (said_by d).bytes br) br)) (record { at = x; call = call; said = said_by d } ∷ trace)
    unfolding performed meaning
    receiver_step (Call.send time m) line brought = send_after time m line
    receiver_step (Call.receive time bytes) line brought = message_after time bytes line brought
    receiver_step (Call.reply time bytes) line brought = reply_after time bytes line
    receiver_step (Call.clock time) line brought = tick_after time line
    receiver_step Call.report line brought = passed_by route p here trace j _ (λ (n : 0 ≡ 0). nothing_foreign route)
