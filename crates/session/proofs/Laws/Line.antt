-- What the line tells: whose message or reply some written bytes are, and what they bring.
use mathlib.Core.Path.{◌≡◌, ap, ◌∙◌}
use mathlib.Core.Bool.{Bool, true, false, true≢false, false≢true}
use mathlib.Core.List.{List, ◌++◌}
use Prim.Native.Nat.{ℕ, ◌≤◌}
use lib.Dec.{eqb}
use Rattle.std.specs.Prelude.{Option, Some}
use Rattle.packed.specs.Part.{byte_at}
use Rattle.packed.specs.Number.{byte_value}
use Rattle.codes.specs.declared.code.Code.{Code}
use Rattle.codes.specs.Code.{code_number}
use Rattle.codes.proofs.Laws.Code.{code_value}
use Rattle.codes.specs.Field.{table_takes}
use Rattle.message.specs.declared.route.Route.{Route}
use Rattle.message.specs.declared.envelope.Kind.{Kind}
use Rattle.message.specs.declared.envelope.Envelope.{Envelope}
use Rattle.message.specs.declared.reply.Reply.{Reply}
use Rattle.message.specs.Envelope.{serial_of, envelope_fields, envelope_good, envelope_of, envelope_values, written_envelope, body_of}
use Rattle.message.specs.Reply.{written_reply_body}
use Rattle.message.specs.Line.{whole_message, whole_reply}
use Rattle.message.proofs.Laws.Envelope.{envelope_told, body_told, kind_told}
use Rattle.session.specs.Reply.{is_accepted}
use Rattle.session.specs.Ledger.{body_entry}
use Rattle.session.specs.Entering.{Waiting}

-- whether a code accepts
abbrev pub accepts : Code → Bool
accepts c = eqb (code_number c) 0

-- a message of a direction is no later than the presenter's last, and that one reads as what is waiting
abbrev pub MessageFact : Route → (serial : ℕ) → Option Waiting → List ℕ → Type 0
MessageFact route serial waiting bytes =
    envelope_good Kind.Message bytes ≡ true → (envelope_of bytes).route ≡ route → (serial_of bytes ≤ serial) × ((m : Waiting) → serial_of bytes ≡ serial → waiting ≡ Some m → body_entry (body_of bytes) ≡ Some m.entry)

-- a reply is to nothing later than the receiver's last, and that one brings the kept code
abbrev pub ReplyFact : Route → (serial : ℕ) → Code → List ℕ → Type 0
ReplyFact route serial code bytes = envelope_good Kind.Reply bytes ≡ true → (envelope_of bytes).route ≡ route → (serial_of bytes ≤ serial) × (serial_of bytes ≡ serial → is_accepted bytes ≡ accepts code)

is_reply : Kind → Bool
is_reply Kind.Message = false
is_reply Kind.Reply = true

-- a message is no reply, and a reply no message, whatever its route
pub message_no_reply : (e : Envelope) (body : List ℕ) → envelope_good Kind.Reply (whole_message e body) ≡ true → ⊥
unfolding is_reply
message_no_reply e body g = true≢false (ap is_reply (kind_told Kind.Message Kind.Reply e body g))

pub reply_no_message : (e : Envelope) (r : Reply) → envelope_good Kind.Message (whole_reply e r) ≡ true → ⊥
unfolding is_reply
reply_no_message e r g = false≢true (ap is_reply (kind_told Kind.Reply Kind.Message e (written_reply_body r) g))

-- the route and the serial of an envelope that can be written are read back
module _ (kind : Kind) (e : Envelope) (body : List ℕ) (fits : table_takes envelope_fields (envelope_values e) ≡ true) where
  pub route_told : (envelope_of (written_envelope kind e ++ body)).route ≡ e.route
  route_told = ap (λ (x : Envelope). x.route) (envelope_told kind e body fits)

  pub serial_read : serial_of (written_envelope kind e ++ body) ≡ e.serial
  serial_read = ap (λ (x : Envelope). x.serial) (envelope_told kind e body fits)

-- and a reply's code
pub code_read : (e : Envelope) (r : Reply) → is_accepted (whole_reply e r) ≡ accepts r.code
code_read e r = ap (λ (body : List ℕ). eqb (byte_value (byte_at 4 body)) 0) (body_told Kind.Reply e (written_reply_body r)) ∙ ap (λ (n : ℕ). eqb n 0) (code_value r.code)
