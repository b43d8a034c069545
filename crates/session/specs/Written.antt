-- 01, 'Layouts', its last sentence, of whole messages with a detail, and of every message that a send writes: whoever reads it finds the envelope and
-- the fields that were meant. So every number that a presenter writes fits its field, at the limits that are in force. Proved in proofs/Laws/Written.
use Rattle.std.specs.Prelude.{ℕ, ◌≡◌, List, ◌++◌, take}
use Rattle.packed.specs.Writing.{packed_byte}
use Rattle.codes.specs.Body.{operation_of}
use Rattle.document.specs.Part.{documents_of}
use Rattle.detail.specs.Groups.{documents}
use Rattle.detail.specs.Codes.{receiver_code, presenter_code}
use Rattle.detail.specs.Writing.{written_detail}
use Rattle.detail.specs.RoundTrip.{drawee_code, part_of, cleared_groups}
use Rattle.message.specs.declared.envelope.Envelope.{Envelope}
use Rattle.message.specs.declared.envelope.Kind.{Kind}
use Rattle.message.specs.Envelope.{body_of}
use Rattle.message.specs.Limits.{envelope_bytes}
use Rattle.message.specs.Line.{whole_message}
use Rattle.message.specs.RoundTrip.{EnvelopeFits, EnvelopeRead, MessageRead}
use Rattle.session.specs.Parties.{Direction}
use Rattle.session.specs.Outcome.{Held}
use Rattle.session.specs.Sending.{next_envelope, header_body, lot_total_body, session_total_body, Send, send_message}
use Rattle.session.specs.Premise.{Sound, Carried}

-- a detail: its operation and its documents, keys included; and its receiver, whomever that represents, finds no fault but a drawee whom it does not serve
pub record ReadsAsDetail (e : Envelope) (operation : ℕ) (part bytes : List ℕ) : Type 0 where
  pub envelope : EnvelopeRead Kind.Message e bytes
  pub operation_read : operation_of (body_of bytes) ≡ packed_byte operation
  pub documents_read : documents (body_of bytes) ≡ documents_of part
  pub code_there : (represented : List ℕ) → receiver_code e.route.receiving represented (body_of bytes) ≡ drawee_code operation e.route.receiving represented part

-- a message with a detail that is written and read
abbrev pub DetailWrittenThenRead : Type 0
DetailWrittenThenRead = (e : Envelope) (operation : ℕ) (part : List ℕ) → EnvelopeFits e → presenter_code operation e.route.receiving part ≡ 0 → ReadsAsDetail e operation part (whole_message e (written_detail (packed_byte operation) part))

-- and one that is read, accepted and written, its free bytes becoming 00
abbrev pub DetailReadThenWritten : Type 0
DetailReadThenWritten = (e : Envelope) (represented bytes : List ℕ) → EnvelopeRead Kind.Message e bytes → let body = body_of bytes in receiver_code e.route.receiving represented body ≡ 0 → whole_message e (written_detail (operation_of body) (part_of body)) ≡ take envelope_bytes bytes ++ cleared_groups body

-- what a send means to say, with what it is lent: every field of a header or a total, and no fault
abbrev pub AsMeant : Send → Held → (bytes : List ℕ) → Type 0
AsMeant (Send.header moment centre number) h bytes = MessageRead (next_envelope h.session) (header_body moment centre number) bytes
AsMeant (Send.detail operation part) h bytes = ReadsAsDetail (next_envelope h.session) operation part bytes
AsMeant Send.lot_total h bytes = MessageRead (next_envelope h.session) (lot_total_body h.session.presenting.counters h.running) bytes
AsMeant Send.session_total h bytes = MessageRead (next_envelope h.session) (session_total_body h.session.presenting.counters) bytes

-- of every send that is not refused, what it wrote
abbrev pub WrittenAsMeant : Type 0
WrittenAsMeant = (time : ℕ) (x : Send) (h : Held) → Sound h.session → Carried Direction.presenting h.session h.running → let o = send_message time x h in o.number ≡ 0 → AsMeant x h (take o.written o.left.line)
