-- An evening for the examples: the near end is entity 0081, the far end entity 0072, the date 14 March 2028, and nobody is represented.
-- Here are its messages, replies and calls, and the names of all definitions that an example computes with.
use Prim.Native.Nat.{ℕ}
use mathlib.Core.List.{List}
use lib.ListN.{replicate}
use Rattle.packed.specs.Writing.{packed_byte}
use Rattle.amounts.specs.declared.Totals.{Totals}
use Rattle.codes.specs.declared.code.Code.{Code}
use Rattle.codes.specs.Field.{table_written}
use Rattle.codes.specs.Numbered.{numbered}
use Rattle.codes.specs.Code.{codes, code_byte, code_numbered, read_code, known_code}
use Rattle.detail.specs.Writing.{written_detail}
use Rattle.detail.proofs.Cases.{computing as detail_computing}
use Rattle.message.specs.declared.envelope.Envelope.{Envelope}
use Rattle.message.specs.declared.route.Route.{Route}
use Rattle.message.specs.Content.{by_operation, content_of}
use Rattle.message.specs.Envelope.{envelope_fields, envelope_good}
use Rattle.message.specs.Header.{header_fields, header_sendable}
use Rattle.message.specs.Layout.{fixed_shape, body_code}
use Rattle.message.specs.Line.{Body, body_bytes, whole_message, whole_reply}
use Rattle.message.specs.Reply.{operation_byte, operation_for, reply_good}
use Rattle.message.specs.Total.{lot_total_fields, session_total_fields}
use Rattle.session.specs.Parties.{real_date, parties_good, padded}
use Rattle.session.specs.Start.{fresh, start}
use Rattle.session.specs.Course.{advance, kept}
use Rattle.session.specs.Sequence.{header_sequence, lot_sequence, lot_total_sequence, session_total_sequence}
use Rattle.session.specs.Outcome.{decided}
use Rattle.session.specs.Time.{clock_refusal, time_refusal}
use Rattle.session.specs.Sending.{send_refusal, send, header_stop, detail_stop, lot_total_stop, session_total_stop, Send, send_message}
use Rattle.session.specs.Receiving.{header_code, detail_code, lot_total_code, session_total_code, received_code, received_effect, receiving_after, receive_refusal, receive}
use Rattle.session.specs.Reply.{is_awaited, reply_refusal, take_reply}
use Rattle.session.specs.Clock.{clock}
use Rattle.session.specs.Report.{report}
use Rattle.session.specs.Ledger.{enter, received_entry, sum, lots_sum}
use Rattle.session.specs.Engine.{Call, meaning, performed}
use Rattle.session.specs.Ends.{End, act, run, begun}
use Rattle.session.specs.Entering.{presenter_ledger_at, receiver_ledger_at}

-- whoever unfolds this unfolds them all, those of a detail among them
unfoldable pub computing : Unit {0}
unfolding detail_computing table_written numbered codes code_byte code_numbered read_code known_code written_detail by_operation envelope_fields envelope_good header_fields header_sendable fixed_shape body_code body_bytes operation_byte reply_good lot_total_fields session_total_fields real_date parties_good padded fresh start advance kept header_sequence lot_sequence lot_total_sequence session_total_sequence decided clock_refusal time_refusal send_refusal send header_stop detail_stop lot_total_stop session_total_stop send_message header_code detail_code lot_total_code session_total_code received_code received_effect receiving_after receive_refusal receive is_awaited reply_refusal take_reply clock report enter received_entry sum lots_sum meaning performed act run presenter_ledger_at receiver_ledger_at begun
computing = tt

-- the route on which an end presents
abbrev pub way : End → Route
way End.near = record { date = 140328; presenting = 81; receiving = 72 }
way End.far = record { date = 140328; presenting = 72; receiving = 81 }

-- a message by what it says
pub data Sent : Type 0 where
  header : (number : ℕ) → Sent
  detail : (operation : ℕ) (part : List ℕ) → Sent
  lot_total : (number : ℕ) → Totals → Sent
  session_total : (lots : ℕ) → Totals → Sent

-- every header says 21:00:00.00 and centre 1
abbrev pub moment : ℕ
moment = 21000000

abbrev pub body_from : End → Sent → List ℕ
body_from p (Sent.header number) = body_bytes (way p) (Body.opening (record { time = moment; centre = 1; number = number }))
body_from p (Sent.detail operation part) = written_detail (packed_byte operation) part
body_from p (Sent.lot_total number stated) = body_bytes (way p) (Body.lot_ending (record { number = number; stated = stated }))
body_from p (Sent.session_total lots stated) = body_bytes (way p) (Body.session_ending (record { number = lots; stated = stated }))

-- the whole message that an end presents with a serial, and a reply to it
abbrev pub envelope_from : End → (serial : ℕ) → Envelope
envelope_from p serial = record { route = way p; serial = serial }

abbrev pub message_from : End → (serial : ℕ) → Sent → List ℕ
message_from p serial x = whole_message (envelope_from p serial) (body_from p x)

abbrev pub reply_to : End → (serial : ℕ) → Sent → Code → List ℕ
reply_to p serial x code = whole_reply (envelope_from p serial) (record { operation = operation_for (content_of (body_from p x)); code = code })

-- a line buffer, longer than any message here
abbrev pub buffer : List ℕ
buffer = replicate 300 0xEE

-- the calls of a message at a time: its presenter sends it, the other end receives it, the presenter takes the reply
abbrev pub sending : (time : ℕ) → Sent → Call
sending time (Sent.header number) = Call.send time (Send.header moment 1 number)
sending time (Sent.detail operation part) = Call.send time (Send.detail operation part)
sending time (Sent.lot_total number stated) = Call.send time Send.lot_total
sending time (Sent.session_total lots stated) = Call.send time Send.session_total

abbrev pub receiving : (time : ℕ) → End → (serial : ℕ) → Sent → Call
receiving time p serial x = Call.receive time (message_from p serial x)

abbrev pub replied : (time : ℕ) → End → (serial : ℕ) → Sent → Code → Call
replied time p serial x code = Call.reply time (reply_to p serial x code)
