-- 01, 'Course of a direction' and 'Order, first that applies': a message that arrives.
use Rattle.std.specs.Prelude.{ℕ, suc, ◌+◌, Bool, not, ◌&&◌, ◌||◌, cond, List, eqb, length, take}
use Rattle.packed.specs.Every.{any_of}
use Rattle.amounts.specs.declared.Totals.{Totals}
use Rattle.amounts.specs.Totals.{same}
use Rattle.codes.specs.Chain.{◌when◌, ◌orelse◌}
use Rattle.codes.specs.Code.{code_numbered}
use Rattle.codes.specs.Body.{operation_of}
use Rattle.detail.specs.Groups.{documents}
use Rattle.detail.specs.Codes.{receiver_code}
use Rattle.message.specs.declared.content.Content.{Content}
use Rattle.message.specs.declared.envelope.Kind.{Kind}
use Rattle.message.specs.declared.route.Route.{Route}
use Rattle.message.specs.Limits.{reply_room}
use Rattle.message.specs.Route.{same_route}
use Rattle.message.specs.Envelope.{serial_of, envelope_good, envelope_of, body_of}
use Rattle.message.specs.Content.{content_of}
use Rattle.message.specs.Layout.{body_code}
use Rattle.message.specs.Header.{header, header_of}
use Rattle.message.specs.Total.{lot_total, lot_total_fields, session_total, session_total_fields, total_of}
use Rattle.message.specs.Reply.{operation_for}
use Rattle.message.specs.Line.{whole_reply}
use Rattle.session.specs.declared.counters.Lot.{Lot}
use Rattle.session.specs.declared.counters.Course.{Course}
use Rattle.session.specs.declared.effect.Effect.{Effect}
use Rattle.session.specs.declared.parties.Parties.{Parties}
use Rattle.session.specs.declared.session.Receiving.{Receiving}
use Rattle.session.specs.declared.session.Session.{Session}
use Rattle.session.specs.Limits.{passes_lot, lots_used}
use Rattle.session.specs.Hours.{receiver_late}
use Rattle.session.specs.Parties.{represented_by, receiving_route}
use Rattle.session.specs.declared.running.Running.{Running}
use Rattle.session.specs.Running.{detail_adds, stated, documents_in}
use Rattle.session.specs.Course.{course, advance, ends, kept}
use Rattle.session.specs.Sequence.{header_sequence, lot_sequence, lot_total_sequence, session_total_sequence}
use Rattle.session.specs.Outcome.{Held, held, Outcome, decided, wrote, no_room, seen_at, with_receiving}
use Rattle.session.specs.Time.{time_refusal}

-- the accepted lots: of the places, as many as are counted
abbrev pub accepted_lots : Receiving → List Lot
accepted_lots r = take r.counters.lots r.lots

-- 04 of a header: one of the lots has this number
abbrev pub number_used : ℕ → List Lot → Bool
number_used number lots = any_of (λ (l : Lot). eqb number l.number) lots

-- 04 of a lot total: one of them has these three totals
abbrev pub totals_used : Totals → List Lot → Bool
totals_used t lots = any_of (λ (l : Lot). same (stated l.gathered) t) lots

-- 'Codes': of each message those that it can earn, in the paper's order.

-- a header
unfoldable pub header_code : (time : ℕ) (body : List ℕ) → Parties → Receiving → ℕ
header_code time body p r =
    body_code (header (receiving_route p)) body
    orelse header_sequence r.ended r.counters.current
    orelse 10 when receiver_late time
    orelse 4 when number_used (header_of body).number (accepted_lots r)
    orelse 11 when lots_used r.counters.lots

-- a detail
unfoldable pub detail_code : (body : List ℕ) → Parties → Running → Receiving → ℕ
detail_code body p running r =
    receiver_code p.own (represented_by p) body
    orelse lot_sequence r.ended r.counters.current
    orelse 12 when passes_lot (documents_in running + documents_in (detail_adds (operation_of body) (documents body)))

-- a lot total
unfoldable pub lot_total_code : (body : List ℕ) → Running → Receiving → ℕ
lot_total_code body running r =
    let read = total_of lot_total_fields body in
    body_code lot_total body
    orelse lot_total_sequence r.ended read.number r.counters.current running
    orelse 4 when totals_used read.stated (accepted_lots r)
    orelse 8 when not (same (stated running) read.stated)

-- a session total
unfoldable pub session_total_code : (body : List ℕ) → Receiving → ℕ
session_total_code body r =
    let read = total_of session_total_fields body in
    body_code session_total body
    orelse session_total_sequence r.ended r.counters.current
    orelse 8 when not (eqb r.counters.lots read.number && same (stated r.counters.gathered) read.stated)

-- the code of a body, by what it is
unfoldable pub received_code : Content → (time : ℕ) (body : List ℕ) → Parties → Running → Receiving → ℕ
received_code Content.Header time body p running r = header_code time body p r
received_code Content.Detail time body p running r = detail_code body p running r
received_code Content.LotTotal time body p running r = lot_total_code body running r
received_code Content.SessionTotal time body p running r = session_total_code body r
received_code Content.Unknown time body p running r = 1  -- another operation

-- what it does to its direction
unfoldable pub received_effect : Content → (body : List ℕ) → Running → Effect
received_effect Content.Header body running = Effect.Header (header_of body).number
received_effect Content.Detail body running = Effect.Detail (detail_adds (operation_of body) (documents body))
received_effect Content.LotTotal body running = Effect.LotTotal (record { number = (total_of lot_total_fields body).number; gathered = running })
received_effect Content.SessionTotal body running = Effect.SessionTotal
received_effect Content.Unknown body running = Effect.Nothing

-- the code that a new message earns
abbrev pub earned_code : (time : ℕ) (body : List ℕ) → Parties → Running → Receiving → ℕ
earned_code time body p running r = received_code (content_of body) time body p running r

-- the course of the direction after a message of this code
abbrev pub receiving_course : (code : ℕ) (body : List ℕ) → Running → Receiving → Course
receiving_course code body running r = advance (received_effect (content_of body) body running) (eqb code 0) (course r.counters running)

-- 'its serial becomes the last', and the reply is kept
unfoldable pub receiving_after : (code : ℕ) (body : List ℕ) → Running → Receiving → Receiving
receiving_after code body running r =
    let effect = received_effect (content_of body) body running in
    record {
      serial = suc r.serial;
      reply = record { operation = operation_for (content_of body); code = code_numbered code };
      counters = (receiving_course code body running r).counters;
      ended = r.ended || ends effect (eqb code 0);
      lots = kept effect (eqb code 0) r.counters.lots r.lots;
    }

-- it has the last serial, or the last plus 1
abbrev pub is_last : (bytes : List ℕ) (last : ℕ) → Bool
is_last bytes last = eqb (serial_of bytes) last

abbrev pub is_next : (bytes : List ℕ) (last : ℕ) → Bool
is_next bytes last = eqb (serial_of bytes) (suc last)

-- 35 otherwise: one of the two
abbrev pub is_expected : (bytes : List ℕ) (last : ℕ) → Bool
is_expected bytes last = is_last bytes last || is_next bytes last

-- a new message is handled
abbrev pub after_new : (time : ℕ) (body : List ℕ) → Held → Held
after_new time body h =
    let r = h.session.receiving in
    let code = earned_code time body h.session.parties h.running r in
    held (seen_at time (with_receiving (receiving_after code body h.running r) h.session)) (receiving_course code body h.running r).running h.line

-- the last one again: its body is not read, and only the last seen time moves
abbrev pub after_repeat : (time : ℕ) → Held → Held
after_repeat time h = held (seen_at time h.session) h.running h.line

-- which of the two it is, its serial tells
abbrev pub after_message : (time : ℕ) (bytes : List ℕ) → Held → Held
after_message time bytes h = cond (is_next bytes h.session.receiving.serial) (after_new time (body_of bytes) h) (after_repeat time h)

-- 'Order': receiving, before the codes, which travel in the reply
abbrev pub receiving_order : (bytes : List ℕ) (last room : ℕ) → Route → ℕ
receiving_order bytes last room route =
    21 when not (envelope_good Kind.Message bytes)
    orelse 33 when not (same_route (envelope_of bytes).route route)
    orelse 35 when not (is_expected bytes last)
    orelse 23 when no_room reply_room room

-- after the refusals by the clock
unfoldable pub receive_refusal : (time : ℕ) (bytes : List ℕ) (room : ℕ) → Session → ℕ
receive_refusal time bytes room s =
    time_refusal time s.seen s.close
    orelse receiving_order bytes s.receiving.serial room (receiving_route s.parties)

-- the reply that is kept is written, new or again
abbrev pub replying : (bytes : List ℕ) → Held → Outcome
replying bytes h = wrote (whole_reply (envelope_of bytes) h.session.receiving.reply) h

-- a message of any bytes
unfoldable pub receive : (time : ℕ) (bytes : List ℕ) → Held → Outcome
receive time bytes h = decided (receive_refusal time bytes (length h.line) h.session) h (replying bytes (after_message time bytes h))
