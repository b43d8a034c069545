-- Parts of the lines of 'Order', each of which one function answers for.
use Rattle.std.specs.Prelude.{ℕ, not, List, leb}
use Rattle.codes.specs.Chain.{◌when◌, ◌orelse◌}
use Rattle.codes.specs.Body.{operation_of}
use Rattle.message.specs.Limits.{largest_serial}
use Rattle.message.specs.Reply.{reply_good}
use Rattle.session.specs.declared.session.Presenting.{Presenting}
use Rattle.session.specs.declared.session.Session.{Session}
use Rattle.session.specs.Outcome.{no_room}
use Rattle.session.specs.Time.{time_refusal}
use Rattle.session.specs.Sending.{is_pending}
use Rattle.session.specs.Reply.{is_awaited}

-- a send: what refuses it before its own code
abbrev pub before_code : (time : ℕ) → Session → ℕ
before_code time s =
    time_refusal time s.seen s.close
    orelse 34 when is_pending s.presenting.pending
    orelse 36 when leb largest_serial s.presenting.serial

-- its own code, then 23
abbrev pub from_code : (code bytes room : ℕ) → ℕ
from_code code bytes room = code orelse 23 when no_room bytes room

-- a reply: what its body decides
abbrev pub of_body : (body : List ℕ) (serial : ℕ) → Presenting → ℕ
of_body body serial p =
    22 when not (reply_good body)
    orelse 35 when not (is_awaited serial (operation_of body) p)
