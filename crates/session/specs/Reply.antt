-- 01, 'Course of a direction' and 'Order, first that applies': a reply that arrives.
use Rattle.std.specs.Prelude.{ℕ, Bool, not, ◌&&◌, ◌||◌, List, eqb}
use Rattle.packed.specs.Part.{byte_at}
use Rattle.packed.specs.Number.{byte_value}
use Rattle.codes.specs.Chain.{◌when◌, ◌orelse◌}
use Rattle.codes.specs.Body.{operation_of}
use Rattle.message.specs.declared.envelope.Kind.{Kind}
use Rattle.message.specs.declared.reply.ReplyOperation.{ReplyOperation}
use Rattle.message.specs.declared.route.Route.{Route}
use Rattle.message.specs.Route.{same_route}
use Rattle.message.specs.Envelope.{serial_of, envelope_good, envelope_of, body_of}
use Rattle.message.specs.Reply.{operation_byte, reply_good}
use Rattle.session.specs.declared.counters.Course.{Course}
use Rattle.session.specs.declared.effect.Effect.{Effect}
use Rattle.session.specs.declared.session.Presenting.{Presenting}
use Rattle.session.specs.declared.session.Session.{Session}
use Rattle.session.specs.Parties.{presenting_route}
use Rattle.session.specs.declared.running.Running.{Running}
use Rattle.session.specs.Course.{course, advance, ends}
use Rattle.session.specs.Outcome.{Held, held, Outcome, decided, silent, seen_at, with_presenting}
use Rattle.session.specs.Time.{time_refusal}
use Rattle.session.specs.Sending.{is_pending}

-- the operation of the reply that a message awaits
abbrev pub awaited_operation : Effect → ReplyOperation
awaited_operation Effect.Nothing = ReplyOperation.Other
awaited_operation (Effect.Header number) = ReplyOperation.Other
awaited_operation (Effect.Detail more) = ReplyOperation.Other
awaited_operation (Effect.LotTotal lot) = ReplyOperation.LotTotal
awaited_operation Effect.SessionTotal = ReplyOperation.SessionTotal

-- 35 otherwise: a reply is awaited, and it is one of this serial and operation
unfoldable pub is_awaited : (serial operation : ℕ) → Presenting → Bool
is_awaited serial operation p = is_pending p.pending && eqb serial p.serial && eqb operation (operation_byte (awaited_operation p.pending))

-- the code that a whole reply brings
abbrev pub reply_code : List ℕ → ℕ
reply_code bytes = byte_value (byte_at 4 (body_of bytes))

-- it is 00
abbrev pub is_accepted : List ℕ → Bool
is_accepted bytes = eqb (reply_code bytes) 0

-- 'Order': reply
abbrev pub reply_order : (bytes : List ℕ) → Route → Presenting → ℕ
reply_order bytes route p =
    21 when not (envelope_good Kind.Reply bytes)
    orelse 33 when not (same_route (envelope_of bytes).route route)
    orelse 22 when not (reply_good (body_of bytes))
    orelse 35 when not (is_awaited (serial_of bytes) (operation_of (body_of bytes)) p)

-- after the refusals by the clock
unfoldable pub reply_refusal : (time : ℕ) (bytes : List ℕ) → Session → ℕ
reply_refusal time bytes s =
    time_refusal time s.seen s.close
    orelse reply_order bytes (presenting_route s.parties) s.presenting

-- what was awaited is counted now, with the code that was read
abbrev pub presenting_course : (accepted : Bool) → Running → Presenting → Course
presenting_course accepted running p = advance p.pending accepted (course p.counters running)

-- and awaited no longer
abbrev pub after_reply : (accepted : Bool) → Running → Presenting → Presenting
after_reply accepted running p = record { serial = p.serial; pending = Effect.Nothing; counters = (presenting_course accepted running p).counters; ended = p.ended || ends p.pending accepted }

-- all that a reply leaves
abbrev pub replied : (time : ℕ) (accepted : Bool) → Held → Held
replied time accepted h =
    let s = h.session in
    held (seen_at time (with_presenting (after_reply accepted h.running s.presenting) s)) (presenting_course accepted h.running s.presenting).running h.line

-- a reply of any bytes
unfoldable pub take_reply : (time : ℕ) (bytes : List ℕ) → Held → Outcome
take_reply time bytes h = decided (reply_refusal time bytes h.session) h (silent (replied time (is_accepted bytes) h))
