-- What a send writes is read as it was meant: every number is within its field, because the premise bounds counters and running totals and the
-- presenter's own codes bound the arguments. A limit that let a total grow past its field has no proof here.
use mathlib.Core.Path.{◌≡◌, ap, sym, subst, ◌∙◌}
use mathlib.Core.Bool.{true, ◌&&◌}
use mathlib.Core.List.{List, ◌++◌}
use Prim.Native.Nat.{ℕ, suc, ◌+◌, ◌<◌, ◌^◌}
use native.Mathlib.Omega.{arith}
use lib.Dec.{lit<}
use lib.ListN.{length, take}
use borrow.Author.Tests.{le-leb}
use Rattle.std.specs.Prelude.{Option, Some, None}
use Rattle.packed.specs.Writing.{packed_byte}
use Rattle.codes.specs.Body.{operation_of}
use Rattle.codes.proofs.Laws.Chain.{none_both, held}
use Rattle.detail.specs.Groups.{documents}
use Rattle.detail.specs.Codes.{receiver_code, presenter_code, part_sendable}
use Rattle.detail.specs.Writing.{written_detail}
use Rattle.detail.proofs.Laws.Codes.{accepted_part, sendable_part}
use Rattle.detail.proofs.Laws.Writing.{written_bytes_lem}
use Rattle.detail.proofs.Laws.RoundTrip.{fields_again, accepted_there, accepted_again}
use Rattle.message.specs.declared.envelope.Kind.{Kind}
use Rattle.message.specs.Limits.{envelope_bytes, message_room}
use Rattle.message.specs.Envelope.{length_good, body_of}
use Rattle.message.specs.Header.{header_sendable}
use Rattle.message.specs.Line.{whole_message}
use Rattle.message.specs.RoundTrip.{BodyFits}
use Rattle.message.proofs.Laws.Envelope.{body_told, written_then_read, read_then_written}
use Rattle.message.proofs.Laws.Header.{in_range}
use Rattle.message.proofs.Laws.Total.{lot_in_range, session_in_range}
use Rattle.message.proofs.Laws.Line.{message_read}
use Rattle.session.specs.declared.session.Session.{Session}
use Rattle.session.specs.Limits.{most_lot_documents}
use Rattle.session.specs.Parties.{presenting_route, Direction}
use Rattle.session.specs.declared.running.Running.{Running}
use Rattle.session.specs.Running.{stated}
use Rattle.session.specs.Outcome.{Held, Outcome}
use Rattle.session.specs.Sending.{next_envelope, send_refusal, posted, send, header_stop, detail_stop, open_number, header_body, lot_total_body, session_total_body, Send, send_stop, sent_effect, sent_body, send_message}
use Rattle.session.specs.Premise.{Fits, OpenSound, Sound, Carried}
use Rattle.session.specs.Written.{DetailWrittenThenRead, DetailReadThenWritten, AsMeant, WrittenAsMeant}
use Rattle.session.proofs.Laws.Decided.{either, first_bytes}
use Rattle.session.proofs.Laws.Refusals.{SendTold, send_told}
use Rattle.session.proofs.Laws.Foreign.{next_fits}

-- a detail that may be sent is no longer than a message may be
pub detail_long : (operation : ℕ) (part : List ℕ) → part_sendable operation part ≡ true → length_good Kind.Message (envelope_bytes + length (written_detail (packed_byte operation) part)) ≡ true
detail_long operation part s =
    let fit = sendable_part operation part s in
    let size = written_bytes_lem (packed_byte operation) part in
    let whole = envelope_bytes + length (written_detail (packed_byte operation) part) in
    λ i. le-leb (envelope_bytes + 1) whole (omega (arith, size, fit.least)) i && le-leb whole message_room (omega (arith, size, fit.whole, fit.most)) i

-- the number of an open lot fits its field, and 0 does where none is open
number_fits : (lot : Option ℕ) (lots : ℕ) → OpenSound lot lots → open_number lot < 100 ^ 2
number_fits None lots s = omega arith
number_fits (Some n) lots s = omega (arith, s.0)

module _ (s : Session) (sound : Sound s) where
  -- the bodies of the three sends of a fixed length
  pub header_takes : (time moment centre number : ℕ) → header_stop time moment centre number s.presenting ≡ 0 → BodyFits (next_envelope s) (header_body moment centre number)
  unfolding header_stop
  header_takes time moment centre number z =
      let p = sound.parties in
      let fields = held 1 (header_sendable moment centre number) _ (lit< tt) z in
      in_range (presenting_route s.parties) (record { time = moment; centre = centre; number = number }) (omega (arith, p.date)) (omega (arith, p.own)) (omega (arith, p.partner)) fields.0

  lot_total_takes : (t : Running) → Fits most_lot_documents t → BodyFits (next_envelope s) (lot_total_body s.presenting.counters t)
  lot_total_takes t f =
      let c = s.presenting.counters in
      lot_in_range (record { number = open_number c.current; stated = stated t }) (number_fits c.current c.lots sound.presenting.open_lot) (omega (arith, f.documents)) (omega (arith, f.documents, f.nominal)) (omega (arith, f.documents, f.commission))

  session_total_takes : BodyFits (next_envelope s) (session_total_body s.presenting.counters)
  session_total_takes =
      let c = s.presenting.counters in
      let f = sound.presenting.gathered in
      let lots = sound.presenting.lots in
      session_in_range (record { number = c.lots; stated = stated c.gathered }) (omega (arith, lots)) (omega (arith, lots, f.documents)) (omega (arith, lots, f.documents, f.nominal)) (omega (arith, lots, f.documents, f.commission))

-- messages with a detail, whose documents are read one by one
pub detail_read : DetailWrittenThenRead
detail_read e operation part fits own =
    let may = (accepted_part operation e.route.receiving part own).0 in
    let body = written_detail (packed_byte operation) part in
    let follows = body_told Kind.Message e body in
    record {
      envelope = written_then_read Kind.Message e body fits (detail_long operation part may);
      operation_read = ap operation_of follows ∙ (fields_again operation part may).0;
      documents_read = ap documents follows ∙ (fields_again operation part may).1;
      code_there = λ (represented : List ℕ). ap (receiver_code e.route.receiving represented) follows ∙ accepted_there operation e.route.receiving part represented own;
    }

pub detail_again : DetailReadThenWritten
detail_again e represented bytes read own = λ i. read_then_written Kind.Message bytes e (sym read) i ++ accepted_again e.route.receiving represented (body_of bytes) own i

-- what a send means to say, where nothing stops it
meant : (time : ℕ) (x : Send) (h : Held) → Sound h.session → Carried Direction.presenting h.session h.running → let bytes = whole_message (next_envelope h.session) (sent_body x h) in SendTold (send_stop x time h) (length bytes) h → AsMeant x h bytes
unfolding detail_stop
meant time (Send.header moment centre number) h sound carried told =
    let s = h.session in
    message_read (next_envelope s) (header_body moment centre number) (next_fits s sound told.more) (header_takes s sound time moment centre number told.unstopped)
meant time (Send.detail operation part) h sound carried told =
    let s = h.session in
    detail_read (next_envelope s) operation part (next_fits s sound told.more) (none_both (presenter_code operation s.parties.partner part) _ told.unstopped).0
meant time Send.lot_total h sound carried told =
    let s = h.session in
    message_read (next_envelope s) (lot_total_body s.presenting.counters h.running) (next_fits s sound told.more) (lot_total_takes s sound h.running carried.fits)
meant time Send.session_total h sound carried told =
    let s = h.session in
    message_read (next_envelope s) (session_total_body s.presenting.counters) (next_fits s sound told.more) (session_total_takes s sound)

-- what stands at the start of the line buffer after a send is what was posted
pub written_as_meant : WrittenAsMeant
unfolding send_message send
written_as_meant time x h sound carried =
    let bytes = whole_message (next_envelope h.session) (sent_body x h) in
    let refusal = send_refusal time (send_stop x time h) (length bytes) (length h.line) h.session in
    either (λ (o : Outcome). o.number ≡ 0 → AsMeant x h (take o.written o.left.line)) refusal h (posted time (sent_effect x h) (sent_body x h) h)
    (λ (k : ℕ) (n : suc k ≡ 0). absurd (omega arith))
    (λ (e : refusal ≡ 0) (n : 0 ≡ 0). let told = send_told time (send_stop x time h) (length bytes) h e in subst (AsMeant x h) (sym (first_bytes bytes h.line told.room)) (meant time x h sound carried told))
