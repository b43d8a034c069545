-- 01, 'Layouts', its last sentence, of whole messages and whole replies: writing then reading gives the fields back; reading an accepted body then
-- writing gives its bytes, free bytes becoming 00. All four are proved in proofs/Laws/Line.
use Rattle.std.specs.Prelude.{Ok, ◌≡◌, true, List, ◌++◌, ℕ, take}
use Rattle.codes.specs.Body.{cleared}
use Rattle.codes.specs.Field.{table_takes}
use Rattle.message.specs.declared.envelope.Envelope.{Envelope}
use Rattle.message.specs.declared.envelope.Kind.{Kind}
use Rattle.message.specs.declared.reply.Reply.{Reply}
use Rattle.message.specs.Limits.{envelope_bytes}
use Rattle.message.specs.Reading.{reading}
use Rattle.message.specs.Layout.{read_body}
use Rattle.message.specs.Envelope.{envelope_fields, envelope_values, read_envelope, envelope_said, body_of}
use Rattle.message.specs.Reply.{read_reply, reply_said}
use Rattle.message.specs.Line.{Body, layout_of, values_of, body_bytes, whole_message, whole_reply}

-- its numbers are such as the fields of an envelope take
abbrev pub EnvelopeFits : Envelope → Type 0
EnvelopeFits e = table_takes envelope_fields (envelope_values e) ≡ true

-- and those of a body in its direction
abbrev pub BodyFits : Envelope → Body → Type 0
BodyFits e x = table_takes (layout_of e.route x).fields (values_of e.route x) ≡ true

-- some bytes are read as this envelope
abbrev pub EnvelopeRead : Kind → Envelope → (bytes : List ℕ) → Type 0
EnvelopeRead kind e bytes = read_envelope kind bytes ≡ envelope_said (Ok e)

-- a body is read as this one
abbrev pub BodyRead : Envelope → Body → (body : List ℕ) → Type 0
BodyRead e x body = read_body (layout_of e.route x) body ≡ reading 0 (values_of e.route x)

-- a whole message is read as both
abbrev pub MessageRead : Envelope → Body → (bytes : List ℕ) → Type 0
MessageRead e x bytes = EnvelopeRead Kind.Message e bytes × BodyRead e x (body_of bytes)

-- the bytes of a message or a reply, with the free byte of its body 00
abbrev pub cleared_body : (bytes : List ℕ) → List ℕ
cleared_body bytes = take envelope_bytes bytes ++ cleared (body_of bytes)

-- a message that is written and read
abbrev pub MessageWrittenThenRead : Type 0
MessageWrittenThenRead = (e : Envelope) (x : Body) → EnvelopeFits e → BodyFits e x → MessageRead e x (whole_message e (body_bytes e.route x))

-- a message that is read and written
abbrev pub MessageReadThenWritten : Type 0
MessageReadThenWritten = (e : Envelope) (x : Body) (bytes : List ℕ) → MessageRead e x bytes → whole_message e (body_bytes e.route x) ≡ cleared_body bytes

-- a reply that is written and read
abbrev pub ReplyWrittenThenRead : Type 0
ReplyWrittenThenRead = (e : Envelope) (r : Reply) → EnvelopeFits e → EnvelopeRead Kind.Reply e (whole_reply e r) × (read_reply (body_of (whole_reply e r)) ≡ reply_said (Ok r))

-- a reply that is read and written
abbrev pub ReplyReadThenWritten : Type 0
ReplyReadThenWritten = (e : Envelope) (r : Reply) (bytes : List ℕ) → EnvelopeRead Kind.Reply e bytes → read_reply (body_of bytes) ≡ reply_said (Ok r) → whole_reply e r ≡ cleared_body bytes
