-- 01, 'Course of a direction' and 'Order, first that applies': the four calls that send a message.
use Rattle.std.specs.Prelude.{ℕ, suc, ◌+◌, Bool, true, false, not, List, leb, length, Option, Some, None}
use Rattle.packed.specs.Writing.{packed_byte}
use Rattle.codes.specs.Chain.{◌when◌, ◌orelse◌}
use Rattle.detail.specs.Codes.{presenter_code}
use Rattle.detail.specs.Writing.{written_detail}
use Rattle.message.specs.declared.envelope.Envelope.{Envelope}
use Rattle.message.specs.Limits.{largest_serial}
use Rattle.message.specs.Header.{header_sendable}
use Rattle.message.specs.Line.{Body, body_bytes, whole_message}
use Rattle.session.specs.declared.counters.Lot.{Lot}
use Rattle.session.specs.declared.counters.Counters.{Counters}
use Rattle.session.specs.declared.effect.Effect.{Effect}
use Rattle.session.specs.declared.session.Presenting.{Presenting}
use Rattle.session.specs.declared.session.Session.{Session}
use Rattle.session.specs.Limits.{passes_lot, lots_used}
use Rattle.session.specs.Hours.{presenter_late}
use Rattle.session.specs.Parties.{presenting_route}
use Rattle.session.specs.declared.running.Running.{Running}
use Rattle.session.specs.Running.{detail_adds, stated, documents_in}
use Rattle.session.specs.Sequence.{header_sequence, lot_sequence, session_total_sequence}
use Rattle.session.specs.Outcome.{Held, held, Outcome, decided, wrote, no_room, seen_at, with_presenting}
use Rattle.session.specs.Time.{time_refusal}
use Rattle.document.specs.Part.{documents_of}

-- 34: a reply is still awaited
abbrev pub is_pending : Effect → Bool
is_pending Effect.Nothing = false
is_pending (Effect.Header number) = true
is_pending (Effect.Detail more) = true
is_pending (Effect.LotTotal lot) = true
is_pending Effect.SessionTotal = true

-- each message has the next serial, the first 1
abbrev pub next_envelope : Session → Envelope
next_envelope s = record { route = presenting_route s.parties; serial = suc s.presenting.serial }

-- 'Order': sending, with the presenter's own code in its place
abbrev pub sending_order : (code bytes room : ℕ) → Presenting → ℕ
sending_order code bytes room p =
    34 when is_pending p.pending
    orelse 36 when leb largest_serial p.serial
    orelse code
    orelse 23 when no_room bytes room

-- after the refusals by the clock
unfoldable pub send_refusal : (time code bytes room : ℕ) → Session → ℕ
send_refusal time code bytes room s =
    time_refusal time s.seen s.close
    orelse sending_order code bytes room s.presenting

-- the next serial is used, and its message awaits a reply; the counters stay
abbrev pub sent : (time : ℕ) → Effect → Session → Session
sent time effect s =
    let p = s.presenting in
    seen_at time (with_presenting (record { serial = suc p.serial; pending = effect; counters = p.counters; ended = p.ended }) s)

-- what a send does: the message stands in the line buffer, and nothing is added yet
abbrev pub posted : (time : ℕ) → Effect → (body : List ℕ) → Held → Outcome
posted time effect body h = wrote (whole_message (next_envelope h.session) body) (held (sent time effect h.session) h.running h.line)

-- a message of this body; the presenter's own code stops the call, which is then a refused one
unfoldable pub send : (time code : ℕ) → Effect → (body : List ℕ) → Held → Outcome
send time code effect body h =
    decided (send_refusal time code (length (whole_message (next_envelope h.session) body)) (length h.line) h.session) h (posted time effect body h)

-- The codes that a presenter applies to itself: never 04, 06, 08, nor that no detail was accepted.

-- to a header
unfoldable pub header_stop : (time moment centre number : ℕ) → Presenting → ℕ
header_stop time moment centre number p =
    1 when not (header_sendable moment centre number)
    orelse header_sequence p.ended p.counters.current
    orelse 10 when presenter_late time
    orelse 11 when lots_used p.counters.lots

-- what the documents of a part would add
abbrev pub part_adds : (operation : ℕ) (part : List ℕ) → Running
part_adds operation part = detail_adds (packed_byte operation) (documents_of part)

-- to a detail
unfoldable pub detail_stop : (operation partner : ℕ) (part : List ℕ) → Running → Presenting → ℕ
detail_stop operation partner part running p =
    presenter_code operation partner part
    orelse lot_sequence p.ended p.counters.current
    orelse 12 when passes_lot (documents_in running + documents_in (part_adds operation part))

-- to a lot total, which may be one of zeros
unfoldable pub lot_total_stop : Presenting → ℕ
lot_total_stop p = lot_sequence p.ended p.counters.current

-- to a session total
unfoldable pub session_total_stop : Presenting → ℕ
session_total_stop p = session_total_sequence p.ended p.counters.current

-- the number of the open lot; 0 where there is none, and then no total is sent
abbrev pub open_number : Option ℕ → ℕ
open_number None = 0
open_number (Some n) = n

-- the lot that a total of the presenter ends: the open one, with what it gathered
abbrev pub ending_lot : Counters → Running → Lot
ending_lot c running = record { number = open_number c.current; gathered = running }

-- What each message says. The moment of a header, hhmmsscc, is what it says of itself, and not the time of the call.
abbrev pub header_body : (moment centre number : ℕ) → Body
header_body moment centre number = Body.opening (record { time = moment; centre = centre; number = number })

-- 'The presenter writes totals from its own counters, and a lot total with the open lot's number'
abbrev pub lot_total_body : Counters → Running → Body
lot_total_body c running = let lot = ending_lot c running in Body.lot_ending (record { number = lot.number; stated = stated lot.gathered })

abbrev pub session_total_body : Counters → Body
session_total_body c = Body.session_ending (record { number = c.lots; stated = stated c.gathered })

-- 'a send (header, detail, lot total, session total)': what each is given beside its time
pub data Send : Type 0 where
  header : (moment centre number : ℕ) → Send
  detail : (operation : ℕ) (part : List ℕ) → Send  -- the documents of a part, in groups of four
  lot_total : Send
  session_total : Send

-- the code that stops it, or 00
abbrev pub send_stop : Send → (time : ℕ) → Held → ℕ
send_stop (Send.header moment centre number) time h = header_stop time moment centre number h.session.presenting
send_stop (Send.detail operation part) time h = detail_stop operation h.session.parties.partner part h.running h.session.presenting
send_stop Send.lot_total time h = lot_total_stop h.session.presenting
send_stop Send.session_total time h = session_total_stop h.session.presenting

-- what then awaits its reply
abbrev pub sent_effect : Send → Held → Effect
sent_effect (Send.header moment centre number) h = Effect.Header number
sent_effect (Send.detail operation part) h = Effect.Detail (part_adds operation part)
sent_effect Send.lot_total h = Effect.LotTotal (ending_lot h.session.presenting.counters h.running)
sent_effect Send.session_total h = Effect.SessionTotal

-- and its body
abbrev pub sent_body : Send → Held → List ℕ
sent_body (Send.header moment centre number) h = body_bytes (presenting_route h.session.parties) (header_body moment centre number)
sent_body (Send.detail operation part) h = written_detail (packed_byte operation) part
sent_body Send.lot_total h = body_bytes (presenting_route h.session.parties) (lot_total_body h.session.presenting.counters h.running)
sent_body Send.session_total h = body_bytes (presenting_route h.session.parties) (session_total_body h.session.presenting.counters)

-- a send, at any time
unfoldable pub send_message : (time : ℕ) → Send → Held → Outcome
send_message time x h = send time (send_stop x time h) (sent_effect x h) (sent_body x h) h
