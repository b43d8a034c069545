-- One end of a line, as an engine of the claim about both ends, and what a call does to it: number, bytes written, line buffer and engine, by
-- the meaning of the call.
use Rattle.std.specs.Prelude.{ℕ, List}
use Rattle.session.specs.Sending.{Send}
use Rattle.session.specs.Engine.{Call, Engine, Performed}
use Rattle.centre.specs.declared.call.Order.{Order}
use Rattle.centre.specs.declared.end.Centre.{Centre}
use Rattle.centre.specs.declared.turn.Turn.{Turn}

abbrev pub engine_of : Centre → Engine
engine_of c = record { session = c.session; presenting = c.presenting; receiving = c.receiving }

-- what a turn says, beside the line buffer that it leaves
abbrev pub turn_of : Turn → (line : List ℕ) → Performed
turn_of r line = record { number = r.number; written = r.written; line = line; engine = engine_of r.centre }

-- an order, with the bytes that stand beside it, as a call of 01
abbrev pub call_of : Order → (bytes : List ℕ) → Call
call_of (Order.Header time moment office number) bytes = Call.send time (Send.header moment office number)
call_of (Order.Detail time operation) bytes = Call.send time (Send.detail operation bytes)
call_of (Order.LotTotal time) bytes = Call.send time Send.lot_total
call_of (Order.SessionTotal time) bytes = Call.send time Send.session_total
call_of (Order.Receive time) bytes = Call.receive time bytes
call_of (Order.Reply time) bytes = Call.reply time bytes
call_of (Order.Clock time) bytes = Call.clock time
