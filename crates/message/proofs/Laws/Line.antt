-- Laws of whole messages and whole replies: their lengths, both round trips, what a body is, and examples to the byte.
use mathlib.Core.Path.{◌≡◌, refl, ap, ◌∙◌, sym}
use mathlib.Core.Bool.{true}
use mathlib.Core.List.{List, [], ◌∷◌, ◌++◌}
use Prim.Native.Nat.{ℕ, ◌+◌}
use lib.ListN.{length}
use Rattle.packed.specs.Writing.{packed_byte, packed_bytes}
use Rattle.amounts.specs.Totals.{totals}
use Rattle.codes.specs.declared.code.Code.{Code}
use Rattle.codes.specs.Code.{code_byte}
use Rattle.codes.specs.Body.{cleared}
use Rattle.codes.specs.Field.{table_takes, table_written}
use Rattle.message.specs.declared.route.Route.{Route}
use Rattle.message.specs.declared.envelope.Kind.{Kind}
use Rattle.message.specs.declared.envelope.Envelope.{Envelope}
use Rattle.message.specs.declared.reply.ReplyOperation.{ReplyOperation}
use Rattle.message.specs.Limits.{envelope_bytes}
use Rattle.message.specs.Reading.{reading}
use Rattle.message.specs.Layout.{read_body}
use Rattle.message.specs.Envelope.{length_good, envelope_fields, body_of}
use Rattle.message.specs.Content.{by_operation, content_of}
use Rattle.message.specs.Header.{header_fields}
use Rattle.message.specs.Total.{lot_total_fields, session_total_fields}
use Rattle.message.specs.Reply.{operation_byte, read_reply, written_reply_body}
use Rattle.message.specs.Line.{Body, layout_of, values_of, body_bytes, whole_message, whole_reply}
use Rattle.message.proofs.Laws.Layout.{Whole, written_then_read as layout-written, read_then_written as layout-read}
use Rattle.message.proofs.Laws.Envelope.{body_told, written_then_read as envelope-written, read_then_written as envelope-again}
use Rattle.message.proofs.Laws.Header.{whole as header-whole}
use Rattle.message.proofs.Laws.Total.{lot_whole, session_whole}
use Rattle.message.proofs.Laws.Reply.{written_then_read as reply-written, read_then_written as reply-body-again}
use Rattle.message.specs.RoundTrip.{MessageWrittenThenRead, MessageReadThenWritten, ReplyWrittenThenRead, ReplyReadThenWritten}
use Rattle.message.specs.declared.content.Content.{Content}

-- each body is as long as its layout says, and no longer than a message may be
pub body_length : (route : Route) (x : Body) → length (body_bytes route x) ≡ (layout_of route x).bytes
unfolding body_bytes table_written packed_bytes header_fields lot_total_fields session_total_fields
body_length route (Body.opening h) = refl
body_length route (Body.lot_ending t) = refl
body_length route (Body.session_ending t) = refl

pub short : (route : Route) (x : Body) → length_good Kind.Message (envelope_bytes + length (body_bytes route x)) ≡ true
short route x = ap (λ (n : ℕ). length_good Kind.Message (envelope_bytes + n)) (body_length route x) ∙ go x
  where
    go : (x : Body) → length_good Kind.Message (envelope_bytes + (layout_of route x).bytes) ≡ true
    go (Body.opening h) = refl
    go (Body.lot_ending t) = refl
    go (Body.session_ending t) = refl

-- every row of a body is covered and earns 01 or 03
pub whole : (route : Route) (x : Body) → Whole (layout_of route x)
whole route (Body.opening h) = header-whole route
whole route (Body.lot_ending t) = lot_whole
whole route (Body.session_ending t) = session_whole

module _ (route : Route) (x : Body) where
  -- a written body is read again: its receiver finds every number, and no fault
  pub written_then_read : table_takes (layout_of route x).fields (values_of route x) ≡ true → read_body (layout_of route x) (body_bytes route x) ≡ reading 0 (values_of route x)
  unfolding body_bytes
  written_then_read e = layout-written (layout_of route x) (whole route x) (values_of route x) e

  -- an accepted body is written again, with its free byte 00
  pub read_then_written : (body : List ℕ) → reading 0 (values_of route x) ≡ read_body (layout_of route x) body → body_bytes route x ≡ cleared body
  unfolding body_bytes
  read_then_written body e = layout-read (layout_of route x) (whole route x) body (values_of route x) e

-- what a body is
abbrev pub body_content : Body → Content
body_content (Body.opening h) = Content.Header
body_content (Body.lot_ending t) = Content.LotTotal
body_content (Body.session_ending t) = Content.SessionTotal

-- byte 3 says it
pub content_told : (route : Route) (x : Body) → content_of (body_bytes route x) ≡ body_content x
unfolding body_bytes by_operation
content_told route (Body.opening h) = refl
content_told route (Body.lot_ending t) = refl
content_told route (Body.session_ending t) = refl

-- so for whole messages and whole replies: 01's last sentence on layouts
pub message_read : MessageWrittenThenRead
message_read e x fe fx =
    let body = body_bytes e.route x in
    (envelope-written Kind.Message e body fe (short e.route x), ap (read_body (layout_of e.route x)) (body_told Kind.Message e body) ∙ written_then_read e.route x fx)

pub message_again : MessageReadThenWritten
message_again e x bytes read = λ i. envelope-again Kind.Message bytes e (sym read.0) i ++ read_then_written e.route x (body_of bytes) (sym read.1) i

pub reply_read : ReplyWrittenThenRead
reply_read e r fits = (envelope-written Kind.Reply e (written_reply_body r) fits refl, ap read_reply (body_told Kind.Reply e (written_reply_body r)) ∙ reply-written r)

pub reply_again : ReplyReadThenWritten
reply_again e r bytes he hr = λ i. envelope-again Kind.Reply bytes e (sym he) i ++ reply-body-again r (body_of bytes) (sym hr) i

-- a header of 00:23:59.59 with number 7, from entity 81 to entity 72 on 14 March 2028; totals of one document; and a reply that accepts
example_envelope : Envelope
example_envelope = record { route = record { date = 140328; presenting = 81; receiving = 72 }; serial = 1 }

example_message : whole_message example_envelope (body_bytes example_envelope.route (Body.opening (record { time = 235959; centre = 1; number = 7 }))) ≡ 0x01 ∷ 0x14 ∷ 0x03 ∷ 0x28 ∷ 0x00 ∷ 0x81 ∷ 0x00 ∷ 0x72 ∷ 0x00 ∷ 0x00 ∷ 0x00 ∷ 0x01 ∷ 0x00 ∷ 0x51 ∷ 0x01 ∷ 0x00 ∷ 0x23 ∷ 0x59 ∷ 0x59 ∷ 0x14 ∷ 0x03 ∷ 0x28 ∷ 0x00 ∷ 0x81 ∷ 0x00 ∷ 0x72 ∷ 0x00 ∷ 0x01 ∷ 0x00 ∷ 0x07 ∷ 0x00 ∷ []
unfolding example_envelope body_bytes envelope_fields header_fields table_written packed_bytes packed_byte
example_message = refl

example_lot_total : body_bytes example_envelope.route (Body.lot_ending (record { number = 7; stated = totals 1 15000 30 })) ≡ 0x00 ∷ 0x51 ∷ 0x80 ∷ 0x00 ∷ 0x07 ∷ 0x00 ∷ 0x00 ∷ 0x01 ∷ 0x00 ∷ 0x00 ∷ 0x00 ∷ 0x00 ∷ 0x00 ∷ 0x01 ∷ 0x50 ∷ 0x00 ∷ 0x00 ∷ 0x00 ∷ 0x00 ∷ 0x00 ∷ 0x00 ∷ 0x30 ∷ []
unfolding body_bytes lot_total_fields table_written packed_bytes packed_byte
example_lot_total = refl

example_session_total : body_bytes example_envelope.route (Body.session_ending (record { number = 1; stated = totals 1 15000 30 })) ≡ 0x00 ∷ 0x51 ∷ 0x90 ∷ 0x00 ∷ 0x01 ∷ 0x00 ∷ 0x00 ∷ 0x00 ∷ 0x01 ∷ 0x00 ∷ 0x00 ∷ 0x00 ∷ 0x00 ∷ 0x00 ∷ 0x00 ∷ 0x01 ∷ 0x50 ∷ 0x00 ∷ 0x00 ∷ 0x00 ∷ 0x00 ∷ 0x00 ∷ 0x00 ∷ 0x00 ∷ 0x30 ∷ []
unfolding body_bytes session_total_fields table_written packed_bytes packed_byte
example_session_total = refl

example_reply : whole_reply example_envelope (record { operation = ReplyOperation.Other; code = Code.Accepted }) ≡ 0x02 ∷ 0x14 ∷ 0x03 ∷ 0x28 ∷ 0x00 ∷ 0x81 ∷ 0x00 ∷ 0x72 ∷ 0x00 ∷ 0x00 ∷ 0x00 ∷ 0x01 ∷ 0x00 ∷ 0x51 ∷ 0x86 ∷ 0x00 ∷ []
unfolding example_envelope envelope_fields table_written packed_bytes packed_byte operation_byte code_byte
example_reply = refl
