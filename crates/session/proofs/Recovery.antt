-- What waits for its reply can still be answered, after any list of calls: `recovery`. The message that waits is on the line, and the receiver, which
-- has taken it or not, expects it; so no test of receiving refuses it, and none of the reply call refuses what receiving then writes.
use mathlib.Core.Path.{◌≡◌, refl, ap, sym, ◌∙◌}
use mathlib.Core.Bool.{Bool, true, false, not, ◌&&◌, cond, or-true}
use mathlib.Core.List.{List, [], ◌∷◌}
use mathlib.Core.Logic.{inl}
use Prim.Native.Nat.{ℕ, suc}
use native.Mathlib.Omega.{arith}
use lib.ListN.{length, take}
use lib.Seq.{sets}
use borrow.Author.Tests.{eq-eqb, ne_eqb, le-ltb}
use Rattle.std.specs.Prelude.{Option, Some}
use Rattle.std.proofs.lemmas.Option.{none-some, same_Some}
use Rattle.codes.specs.Body.{operation_of}
use Rattle.codes.specs.Chain.{◌when◌}
use Rattle.codes.proofs.Laws.Chain.{goes_on, holds}
use Rattle.message.specs.declared.route.Route.{Route}
use Rattle.message.specs.declared.envelope.Kind.{Kind}
use Rattle.message.specs.declared.envelope.Envelope.{Envelope}
use Rattle.message.specs.declared.reply.Reply.{Reply}
use Rattle.message.specs.Limits.{reply_room}
use Rattle.message.specs.Route.{same_route}
use Rattle.message.specs.Envelope.{serial_of, envelope_good, envelope_of, body_of}
use Rattle.message.specs.Reply.{operation_byte, reply_good, written_reply_body}
use Rattle.message.specs.Line.{whole_reply}
use Rattle.message.proofs.Laws.Route.{same_itself}
use Rattle.message.proofs.Laws.Envelope.{envelope_told, written_good, body_told, whole_length}
use Rattle.message.proofs.Laws.Reply.{written_good as reply-good}
use Rattle.session.specs.Parties.{presenting_route, receiving_route, Direction}
use Rattle.session.specs.Outcome.{Held, decided, silent}
use Rattle.session.specs.Time.{time_refusal}
use Rattle.session.specs.Sending.{is_pending}
use Rattle.session.specs.Receiving.{is_next, is_expected, after_new, after_repeat, after_message, receive_refusal, receiving_after, replying, receive}
use Rattle.session.specs.Reply.{awaited_operation, is_awaited, is_accepted, reply_refusal, replied, take_reply}
use Rattle.session.specs.Ledger.{Entry, Ledger}
use Rattle.session.specs.Engine.{Call, Engine, Said, performed, performed_by, said_by, meaning, lent}
use Rattle.session.specs.Ends.{End, other, World, Step, act, run, Brought, Possible, begun}
use Rattle.session.specs.Entering.{Waiting, PresenterLedger, ReceiverLedger, presenter_ledger_at, receiver_ledger_at}
use Rattle.session.specs.Claim.{JustReplied}
use Rattle.session.specs.Recovery.{Allowing, said_at, Unrefused, delivery, delivery_and_reply, Settles, WhatWaitsCanBeAnswered}
use Rattle.session.proofs.Laws.Decided.{first_bytes}
use Rattle.session.proofs.Laws.EveryCall.{same_line}
use Rattle.session.proofs.Laws.Steps.{unchanged_here}
use Rattle.session.proofs.Laws.Ledger.{effect_of}
use Rattle.session.proofs.Laws.Joined.{waiting_effect, reply_for, OnLine, Link}
use Rattle.session.proofs.Laws.Foreign.{reply_fits}
use Rattle.session.proofs.Laws.Presenter.{pending_some}
use Rattle.session.proofs.Laws.Receiver.{reply_for_read, reply_entry}
use Rattle.session.proofs.Agreement.{Whole, act_keeps, whole_after, agree}

-- the last message is expected again, and so is the next one
again_expected : (bytes : List ℕ) (last : ℕ) → serial_of bytes ≡ last → is_expected bytes last ≡ true
again_expected bytes last same = simp (eq-eqb (serial_of bytes) last same)

next_expected : (bytes : List ℕ) (last : ℕ) → is_next bytes last ≡ true → is_expected bytes last ≡ true
next_expected bytes last next = simp (next, or-true)

-- what a presenter awaits is the reply to what waits
awaits : (d : Entry) (b : Ledger) → awaited_operation (effect_of d b) ≡ reply_for d
awaits (Entry.header number) b = refl
awaits (Entry.detail ds) b = refl
awaits Entry.lot_total b = refl
awaits Entry.session_total b = refl

module _ (w : World) (all : Whole w) (p : End) (m : Waiting) (waiting : (presenter_ledger_at p w.trace).waiting ≡ Some m) where
  abbrev e : Engine
  e = w.engine p

  abbrev f : Engine
  f = w.engine (other p)

  abbrev bp : PresenterLedger
  bp = presenter_ledger_at p w.trace

  abbrev br : ReceiverLedger
  br = receiver_ledger_at (other p) w.trace

  abbrev bytes : List ℕ
  bytes = m.message

  abbrev last : ℕ
  last = f.session.receiving.serial

  found : OnLine (presenting_route e.session.parties) e.session.presenting.serial m w.trace
  found = (all.joined p).waits m waiting

  way_there : (envelope_of bytes).route ≡ receiving_route f.session.parties
  way_there = found.way ∙ all.ways p

  module _ (there here : ℕ) (line : List ℕ) (allowed : Allowing w p there here line) where
    abbrev h : Held
    h = lent Direction.receiving line f

    abbrev kept : Reply
    kept = (after_message there bytes h).session.receiving.reply

    -- it is new, or the last again; either way the kept reply is one to it
    record Heard : Type 0 where
      expected : is_expected bytes last ≡ true
      operation : kept.operation ≡ reply_for m.entry

    heard : Heard
    unfolding receiving_after
    heard = go (all.joined p).link
      where
        kept_by : (t : Bool) → is_next bytes last ≡ t → kept.operation ≡ (cond t (after_new there (body_of bytes) h) (after_repeat there h)).session.receiving.reply.operation
        kept_by t n = ap (λ (t : Bool). (cond t (after_new there (body_of bytes) h) (after_repeat there h)).session.receiving.reply.operation) n

        go : Link e.session.presenting f.session.receiving bp.waiting bp.ledger br.ledger → Heard
        go (Link.idle s n b) = absurd (none-some m (sym s ∙ waiting))
        go (Link.sent c s n b) =
            let next : is_next bytes last ≡ true = eq-eqb (serial_of bytes) (suc last) (found.numbered ∙ n) in
            record { expected = next_expected bytes last next; operation = kept_by true next ∙ reply_entry (body_of bytes) ∙ ap reply_for_read found.reads }
        go (Link.taken c s n b o) =
            let again : serial_of bytes ≡ last = found.numbered ∙ n in
            let next : is_next bytes last ≡ false = ne_eqb (serial_of bytes) (suc last) (λ (z : serial_of bytes ≡ suc last). omega arith) in
            record {
              expected = again_expected bytes last again;
              operation = kept_by false next ∙ o ∙ ap (λ (x : Waiting). reply_for x.entry) (same_Some c m (sym s ∙ waiting));
            }

    unrefused : receive_refusal there bytes (length line) f.session ≡ 0
    unfolding receive_refusal ◌when◌
    unrefused =
        let way = receiving_route f.session.parties in
        goes_on (time_refusal there f.session.seen f.session.close) _ allowed.clock_there
        ∙ holds 21 (envelope_good Kind.Message bytes) _ found.good
        ∙ holds 33 (same_route (envelope_of bytes).route way) _ (ap (λ (r : Route). same_route r way) way_there ∙ same_itself way)
        ∙ holds 35 (is_expected bytes last) _ heard.expected
        ∙ ap (λ (t : Bool). 23 when t) (le-ltb (length line) reply_room allowed.room)

    -- so receiving writes the reply
    abbrev whole : List ℕ
    whole = whole_reply (envelope_of bytes) kept

    abbrev first : Step
    first = delivery p bytes there line

    replied_to : said_at first w ≡ record { number = 0; bytes = whole }
    unfolding performed meaning receive decided
    replied_to =
        ap (λ (n : ℕ). said_by (performed_by Direction.receiving (decided n h (replying bytes (after_message there bytes h))) f)) unrefused
        ∙ (λ i. record { number = 0; bytes = take (length whole) (sets (same_line there bytes h i) 0 whole) })
        ∙ λ i. record { number = 0; bytes = first_bytes whole line (omega (arith, allowed.room, whole_length Kind.Reply (envelope_of bytes) (written_reply_body kept))) i }

    -- which the presenter awaits
    told : envelope_of whole ≡ envelope_of bytes
    told = envelope_told Kind.Reply (envelope_of bytes) (written_reply_body kept) (reply_fits f.session (all.ready (other p)).sound bytes found.good way_there)

    pending_so : e.session.presenting.pending ≡ effect_of m.entry bp.ledger
    pending_so = (all.joined p).presenter.pending ∙ ap (λ (o : Option Waiting). waiting_effect o bp.ledger) waiting

    awaited : is_awaited (serial_of whole) (operation_of (body_of whole)) e.session.presenting ≡ true
    unfolding is_awaited
    awaited =
        λ i.
        (ap is_pending pending_so ∙ pending_some m.entry bp.ledger) i
        && eq-eqb (serial_of whole) e.session.presenting.serial (ap (λ (x : Envelope). x.serial) told ∙ found.numbered) i
        && eq-eqb (operation_of (body_of whole)) (operation_byte (awaited_operation e.session.presenting.pending)) (ap operation_of (body_told Kind.Reply (envelope_of bytes) (written_reply_body kept)) ∙ ap operation_byte (heard.operation ∙ sym (ap awaited_operation pending_so ∙ awaits m.entry bp.ledger))) i

    taken : reply_refusal here whole e.session ≡ 0
    unfolding reply_refusal ◌when◌
    taken =
        let way = presenting_route e.session.parties in
        goes_on (time_refusal here e.session.seen e.session.close) _ allowed.clock_here
        ∙ holds 21 (envelope_good Kind.Reply whole) _ (written_good Kind.Reply (envelope_of bytes) (written_reply_body kept) (reply_fits f.session (all.ready (other p)).sound bytes found.good way_there) refl)
        ∙ holds 33 (same_route (envelope_of whole).route way) _ (ap (λ (r : Route). same_route r way) (ap (λ (x : Envelope). x.route) told ∙ found.way) ∙ same_itself way)
        ∙ holds 22 (reply_good (body_of whole)) _ (ap reply_good (body_told Kind.Reply (envelope_of bytes) (written_reply_body kept)) ∙ reply-good kept)
        ∙ ap (λ (t : Bool). 35 when not t) awaited

    -- and takes
    abbrev reply : List ℕ
    reply = (said_at first w).bytes

    abbrev second : Step
    second = record { at = p; call = Call.reply here reply; line = [] }

    reply_taken : (said_at second (act first w)).number ≡ 0
    unfolding act performed meaning take_reply decided
    reply_taken =
        ap (λ (x : Engine). (said_by (performed (Call.reply here reply) [] x)).number) (unchanged_here p (performed (Call.receive there bytes) line f).engine w.engine)
        ∙ ap (λ (r : List ℕ). (said_by (performed (Call.reply here r) [] e)).number) (ap (λ (s : Said). s.bytes) replied_to)
        ∙ ap (λ (n : ℕ). (decided n (lent Direction.presenting [] e) (silent (replied here (is_accepted whole) (lent Direction.presenting [] e)))).number) taken

    brought_back : Brought second.call (act first w).trace
    unfolding act
    brought_back = inl (ap (λ (s : Said). s.number) replied_to, refl)

    after : Whole (act second (act first w))
    after = act_keeps (act first w) (act_keeps w all first.call line found.written (other p)) second.call [] brought_back p

    just : JustReplied (act second (act first w)) p
    unfolding act
    just =
        let said = said_at second (act first w) in
        record { time = here; bytes = reply; said = said.bytes; earlier = (act first w).trace; latest = λ i. record { at = p; call = second.call; said = record { number = reply_taken i; bytes = said.bytes } } ∷ (act first w).trace }

    settles : Settles w p (delivery_and_reply w p bytes there here line)
    unfolding Possible Unrefused run
    settles =
        let settled = (agree (act second (act first w)) after p).settled just in
        record {
          possible = (found.written, (brought_back, tt));
          unrefused = (ap (λ (s : Said). s.number) replied_to, (reply_taken, tt));
          unnamed = settled.0;
          level = settled.1;
        }

-- The claim of specs/Recovery.
pub recovery : WhatWaitsCanBeAnswered
recovery date near_entity far_entity represented begins steps possible = settles (run steps (begun date near_entity far_entity represented)) (whole_after date near_entity far_entity represented begins steps possible)
