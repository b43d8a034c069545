-- A round of a direction, made of what its calls mean: send; if that is not refused, receive what was written; if that is not refused, take the
-- reply that was written.
use Rattle.std.specs.Prelude.{ℕ, cond, List, [], eqb}
use Rattle.session.specs.Engine.{Call, Engine, Performed, performed, said_by}
use Rattle.centre.specs.Turn.{engine_of}
use Rattle.exchange.specs.declared.round.Round.{Round}

-- what became of a message on the line: both engines, the numbers of receiving and reply, and the reply buffer
pub record Answered : Type 0 where
  pub presenter : Engine
  pub receiver : Engine
  pub received : ℕ
  pub replied : ℕ
  pub reply : List ℕ

-- the number of the send and the message buffer, and what became of the message
pub record Rounded : Type 0 where
  pub sent : ℕ
  pub message : List ℕ
  pub answer : Answered

-- the receiver has heard a message; where it refused, no reply call is made: that number is 0, and the presenter stays
abbrev pub reply_to : (time : ℕ) (heard : Performed) (presenter : Engine) → Answered
reply_to time heard presenter =
    let told = performed (Call.reply time (said_by heard).bytes) [] presenter in
    cond (eqb heard.number 0)
    (record { presenter = told.engine; receiver = heard.engine; received = heard.number; replied = told.number; reply = heard.line })
    (record { presenter = presenter; receiver = heard.engine; received = heard.number; replied = 0; reply = heard.line })

-- some bytes reach the receiver, and its reply goes back
unfoldable pub answered : (time : ℕ) (message reply : List ℕ) (presenter receiver : Engine) → Answered
answered time message reply presenter receiver = reply_to time (performed (Call.receive time message) reply receiver) presenter

-- the presenter has made its call; where it was refused, nothing reaches the receiver: both numbers are 0, and all stays
abbrev pub answer_to : (time : ℕ) (reply : List ℕ) (turn : Performed) (receiver : Engine) → Rounded
answer_to time reply turn receiver =
    record {
      sent = turn.number;
      message = turn.line;
      answer =
          cond (eqb turn.number 0)
          (answered time (said_by turn).bytes reply turn.engine receiver)
          (record { presenter = turn.engine; receiver = receiver; received = 0; replied = 0; reply = reply });
    }

unfoldable pub rounded : (call : Call) (time : ℕ) (message reply : List ℕ) (presenter receiver : Engine) → Rounded
rounded call time message reply presenter receiver = answer_to time reply (performed call message presenter) receiver

-- what the code gives, beside the buffers that it leaves
abbrev pub answer_of : Round → (reply : List ℕ) → Answered
answer_of r reply = record { presenter = engine_of r.presenter; receiver = engine_of r.receiver; received = r.received; replied = r.replied; reply = reply }

abbrev pub round_of : Round → (message reply : List ℕ) → Rounded
round_of r message reply = record { sent = r.sent; message = message; answer = answer_of r reply }
