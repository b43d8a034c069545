-- 01, 'Both ends together': an engine, which is a session with the running totals of both directions, and what each call does to it.
use Rattle.std.specs.Prelude.{ℕ, List, take}
use Rattle.session.specs.Parties.{Direction}
use Rattle.session.specs.declared.session.Session.{Session}
use Rattle.session.specs.declared.running.Running.{Running}
use Rattle.session.specs.Running.{empty}
use Rattle.session.specs.Outcome.{Held, held, Outcome, silent}
use Rattle.session.specs.Sending.{Send, send_message}
use Rattle.session.specs.Receiving as Receiving
use Rattle.session.specs.Reply.{take_reply}
use Rattle.session.specs.Clock as Clock
use Rattle.session.specs.Premise.{Sound, Carried}

-- every call on a running session, with its arguments
pub data Call : Type 0 where
  send : (time : ℕ) → Send → Call
  receive : (time : ℕ) (bytes : List ℕ) → Call
  reply : (time : ℕ) (bytes : List ℕ) → Call
  clock : (time : ℕ) → Call
  report : Call

-- what each of them means
unfoldable pub meaning : Call → Held → Outcome
meaning (Call.send time x) h = send_message time x h
meaning (Call.receive time bytes) h = Receiving.receive time bytes h
meaning (Call.reply time bytes) h = take_reply time bytes h
meaning (Call.clock time) h = Clock.clock time h
meaning Call.report h = silent h  -- what it shows is `report`

-- the direction whose running totals stand in what it is lent; header, session total, clock call and report do not use them
abbrev pub direction_of : Call → Direction
direction_of (Call.receive time bytes) = Direction.receiving
direction_of (Call.send time x) = Direction.presenting
direction_of (Call.reply time bytes) = Direction.presenting
direction_of (Call.clock time) = Direction.presenting
direction_of Call.report = Direction.presenting

-- one end of the line
pub record Engine : Type 0 where
  pub session : Session
  pub presenting : Running
  pub receiving : Running

-- what a call of a direction is lent of it
abbrev pub lent : Direction → (line : List ℕ) → Engine → Held
lent Direction.presenting line e = held e.session e.presenting line
lent Direction.receiving line e = held e.session e.receiving line

-- and what it leaves of it
abbrev pub given_back : Direction → Held → Engine → Engine
given_back Direction.presenting h e = record { session = h.session; presenting = h.running; receiving = e.receiving }
given_back Direction.receiving h e = record { session = h.session; presenting = e.presenting; receiving = h.running }

-- what a call with a line buffer gives: its number, how many bytes it wrote, the buffer, and the engine that it leaves
pub record Performed : Type 0 where
  pub number : ℕ
  pub written : ℕ
  pub line : List ℕ
  pub engine : Engine

-- by the outcome of a call of a direction
abbrev pub performed_by : Direction → Outcome → Engine → Performed
performed_by d o e = record { number = o.number; written = o.written; line = o.left.line; engine = given_back d o.left e }

-- a call; a reply call, a clock call and a report do not use their line buffer
unfoldable pub performed : Call → (line : List ℕ) → Engine → Performed
performed call line e = performed_by (direction_of call) (meaning call (lent (direction_of call) line e)) e

-- what a call says: its number, and the whole message or reply that it wrote, which are the first bytes of the line buffer
pub record Said : Type 0 where
  pub number : ℕ
  pub bytes : List ℕ

abbrev pub said_by : Performed → Said
said_by p = record { number = p.number; bytes = take p.written p.line }

-- a session with running totals zero
abbrev pub with_empty : Session → Engine
with_empty s = record { session = s; presenting = empty; receiving = empty }

-- the premise of every call, of an engine
pub record Ready (e : Engine) : Type 0 where
  pub sound : Sound e.session
  pub presenting : Carried Direction.presenting e.session e.presenting
  pub receiving : Carried Direction.receiving e.session e.receiving
