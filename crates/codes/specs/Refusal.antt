-- 01, 'Given because of the input' and 'Given because of the state': the refusals of a call.
use Rattle.std.specs.Prelude.{ℕ}
use Rattle.codes.specs.declared.refusal.Refusal.{Refusal}

-- the paper's number of each, and in short what it says
abbrev pub refusal_number : Refusal → ℕ
refusal_number Refusal.TimePastDay = 20  -- past the last second of a day
refusal_number Refusal.WrongEnvelope = 21  -- an envelope of wrong length or kind, with a non-digit, or with serial zero
refusal_number Refusal.UnknownReply = 22  -- a reply with an unknown mark, operation or code
refusal_number Refusal.ShortBuffer = 23  -- the lent buffer is too short
refusal_number Refusal.WrongStart = 24  -- a start outside its limits
refusal_number Refusal.WrongOutgoing = 25  -- ready documents (01's trays) that are not whole, or a cursor past them
refusal_number Refusal.EarlierTime = 30  -- earlier than the last seen time
refusal_number Refusal.OutsideHours = 31  -- outside the hours, in all calls but the clock call
refusal_number Refusal.Closed = 32  -- the session is closed
refusal_number Refusal.OtherSession = 33  -- another date or pair
refusal_number Refusal.ReplyAwaited = 34  -- the message before still awaits its reply
refusal_number Refusal.UnexpectedSerial = 35  -- not the serial, or not the operation, that is expected, or none is
refusal_number Refusal.NoSerialLeft = 36  -- the last serial is used
