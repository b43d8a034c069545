-- 01, 'Cases', and 02, cards 2 and 6: the starred ones, each beside what the papers say of it: one table, one theorem. A second table has 07 clause
-- by clause, a third what else decides a number, a start among it, and the closes.
use mathlib.Core.Path.{refl}
use mathlib.Core.Bool.{true, false}
use mathlib.Core.List.{List, [], ◌∷◌, ◌++◌}
use Prim.Native.Nat.{ℕ}
use lib.ListN.{drop, replicate}
use Rattle.std.specs.Prelude.{Option, Some, None}
use Rattle.packed.specs.Part.{byte_at}
use Rattle.packed.specs.Number.{byte_value}
use Rattle.amounts.specs.declared.Totals.{Totals}
use Rattle.amounts.specs.Totals.{totals, zeros}
use Rattle.codes.specs.declared.code.Code.{Code}
use Rattle.codes.proofs.Cases.{Case, ◌is◌, AllDue, with_byte}
use Rattle.document.specs.Operation.{presented, presented_number}
use Rattle.detail.specs.Limits.{head_bytes}
use Rattle.detail.specs.declared.checked.Checked.{Checked}
use Rattle.detail.specs.Checked.{four_numbers, program_checked}
use Rattle.detail.proofs.Cases.{printed, for_nothing}
use Rattle.session.specs.declared.counters.Counters.{Counters}
use Rattle.session.specs.declared.session.Close.{Close}
use Rattle.session.specs.Running.{empty, adding, documents_in}
use Rattle.session.specs.Sequence.{header_sequence, lot_sequence, lot_total_sequence, session_total_sequence}
use Rattle.session.specs.Start.{start}
use Rattle.session.specs.Outcome.{seen_at, with_presenting, with_receiving}
use Rattle.session.specs.Sending.{open_number, Send}
use Rattle.session.specs.Engine.{Call, Engine, Performed, performed, said_by, with_empty}
use Rattle.session.specs.Ends.{End}
use Rattle.session.proofs.Examples.{computing, buffer, moment, Sent, message_from, reply_to, sending, receiving, replied}

-- what a case gets; beside a reply stand the open lot, 0 for none, and its documents
pub data Answer : Type 0 where
  checked : Checked → Answer
  number : ℕ → Answer
  reply : (number operation code lot documents : ℕ) → Answer
  everything : Performed → Answer
  close : Close → Answer

-- what the check program shows of a body, and the printed line: code, documents, nominal, commission
abbrev checked_of : (body : List ℕ) → Answer
checked_of body = Answer.checked (program_checked body)

abbrev shows : ℕ → Totals → Answer
shows code t = Answer.checked (four_numbers code t)

-- the number of a start, and of a call, also with a line buffer of so many bytes
abbrev start_of : (date own partner : ℕ) (represented : List ℕ) → Answer
start_of date own partner represented = Answer.number (start date own partner represented).number

abbrev pub number_of : Engine → Call → Answer
number_of e call = Answer.number (performed call buffer e).number

abbrev pub number_in_room : (bytes : ℕ) → Engine → Call → Answer
number_in_room bytes e call = Answer.number (performed call (replicate bytes 0) e).number

-- its number and the reply that it writes; all that it says and leaves; the close that it leaves
abbrev replied_by : Performed → Answer
replied_by d =
    Answer.reply d.number (byte_value (byte_at 15 (said_by d).bytes)) (byte_value (byte_at 16 (said_by d).bytes))
    (open_number d.engine.session.receiving.counters.current) (documents_in d.engine.receiving)

abbrev pub reply_of : Engine → Call → Answer
reply_of e call = replied_by (performed call buffer e)

abbrev everything_of : Engine → Call → Answer
everything_of e call = Answer.everything (performed call buffer e)

abbrev close_of : Engine → Call → Answer
close_of e call = Answer.close (performed call buffer e).engine.session.close

-- entity 0081 presents to entity 0072: both engines, just started
abbrev pub presenter : Engine
presenter = with_empty (start 140328 81 72 []).session

abbrev pub receiver : Engine
receiver = with_empty (start 140328 72 81 []).session

-- a message reaches the receiver
abbrev pub arriving : (time serial : ℕ) → Sent → Call
arriving time serial x = receiving time End.near serial x

-- what an engine is after some calls
abbrev pub after : List Call → Engine → Engine
after [] e = e
after (call ∷ calls) e = after calls (performed call buffer e).engine

-- lot 7 is open, at the presenter and at the receiver
abbrev pub open_presenter : Engine
open_presenter = after (sending 80000 (Sent.header 7) ∷ replied 80000 End.near 1 (Sent.header 7) Code.Accepted ∷ []) presenter

abbrev pub open_receiver : Engine
open_receiver = after (arriving 80000 1 (Sent.header 7) ∷ []) receiver

-- the open lot has so many documents
abbrev pub holding : (documents : ℕ) → Engine → Engine
holding n e = record { session = e.session; presenting = adding presented (totals n 0 0); receiving = adding presented (totals n 0 0) }

-- the printed document as a detail, and for nothing; and the total of a lot that has it alone
abbrev pub detail : Sent
detail = Sent.detail presented_number (drop head_bytes printed)

abbrev pub detail_for_nothing : Sent
detail_for_nothing = Sent.detail presented_number (drop head_bytes (for_nothing printed))

abbrev pub total : (lot : ℕ) → Sent
total n = Sent.lot_total n (totals 1 15000 30)

-- after serial 5: lot 7 was accepted, and lot 8 has the same document
abbrev fifth : Performed
fifth = performed (arriving 80000 5 detail) buffer (after (arriving 80000 2 detail ∷ arriving 80000 3 (total 7) ∷ arriving 80000 4 (Sent.header 8) ∷ []) open_receiver)

abbrev pub five : Engine
five = fifth.engine

-- what the fifth message got, but for a later time that was seen
abbrev fifth_again : (time : ℕ) → Performed
fifth_again time =
    record {
      number = fifth.number;
      written = fifth.written;
      line = fifth.line;
      engine = record { session = seen_at time five.session; presenting = five.presenting; receiving = five.receiving };
    }

starred_cases :
    -- beside a reply: number of the call, operation, code, open lot or 0, its documents
    let cases : List (Case Answer) =
    -- the printed body, and as it is changed
    checked_of printed is shows 0 (totals 1 15000 30)
    ∷ checked_of (with_byte 35 0x0A printed) is shows 3 zeros
    ∷ checked_of (with_byte 36 0x00 (with_byte 37 0x73 printed)) is shows 6 zeros
    ∷ checked_of (with_byte 35 0x0A (with_byte 22 0x53 printed)) is shows 1 zeros
    ∷ checked_of [] is shows 1 zeros
    -- for nothing; with a byte 35 that is no digit; with a drawee that is not served
    ∷ checked_of (for_nothing printed) is shows 44 zeros
    ∷ checked_of (with_byte 35 0x0A (for_nothing printed)) is shows 3 zeros
    ∷ checked_of (with_byte 37 0x73 (for_nothing printed)) is shows 6 zeros
    -- a header sent at 83,699 and at 83,700; received at 83,729 and at 83,730
    ∷ number_of presenter (sending 83699 (Sent.header 7)) is Answer.number 0
    ∷ number_of presenter (sending 83700 (Sent.header 7)) is Answer.number 10
    ∷ reply_of receiver (arriving 83729 1 (Sent.header 7)) is Answer.reply 0 86 0 7 0
    ∷ reply_of receiver (arriving 83730 1 (Sent.header 7)) is Answer.reply 0 86 10 0 0
    -- a detail to 2,600 and to 2,601: sent, then received
    ∷ number_of (holding 2599 open_presenter) (sending 80000 detail) is Answer.number 0
    ∷ number_of (holding 2600 open_presenter) (sending 80000 detail) is Answer.number 12
    ∷ reply_of (holding 2599 open_receiver) (arriving 80000 2 detail) is Answer.reply 0 86 0 7 2600
    ∷ reply_of (holding 2600 open_receiver) (arriving 80000 2 detail) is Answer.reply 0 86 12 7 2600
    -- a lot total with no accepted detail
    ∷ reply_of open_receiver (arriving 80000 2 (Sent.lot_total 7 zeros)) is Answer.reply 0 87 7 0 0
    -- two lots of the same totals
    ∷ reply_of (after (arriving 80000 2 detail ∷ []) open_receiver) (arriving 80000 3 (total 7)) is Answer.reply 0 87 0 0 0
    ∷ reply_of five (arriving 80000 6 (total 8)) is Answer.reply 0 87 4 0 0
    -- after serial 5: 5 with its own body and with another, 4, 7
    ∷ everything_of five (arriving 80001 5 detail) is Answer.everything (fifth_again 80001)
    ∷ everything_of five (arriving 80001 5 (Sent.header 9)) is Answer.everything (fifth_again 80001)
    ∷ number_of five (arriving 80001 4 (Sent.header 8)) is Answer.number 35
    ∷ number_of five (arriving 80001 7 (total 8)) is Answer.number 35
    -- a session total of zeros with no lot
    ∷ reply_of receiver (arriving 80000 1 (Sent.session_total 0 zeros)) is Answer.reply 0 97 0 0 0
    ∷ []
    in
    AllDue cases
unfolding computing
starred_cases = refl

-- an engine of which so many lots were accepted both ways, and one that has used so many serials
abbrev many_lots : (lots : ℕ) → Counters → Counters
many_lots n c = record { current = c.current; lots = n; gathered = c.gathered }

abbrev pub with_lots : (lots : ℕ) → Engine → Engine
with_lots n e =
    let s = e.session in
    let p = s.presenting in
    let r = s.receiving in
    record {
      session =
          with_presenting (record { serial = p.serial; pending = p.pending; counters = many_lots n p.counters; ended = p.ended })
          (with_receiving (record { serial = r.serial; reply = r.reply; counters = many_lots n r.counters; ended = r.ended; lots = r.lots }) s);
      presenting = e.presenting;
      receiving = e.receiving;
    }

abbrev pub with_serial : (serial : ℕ) → Engine → Engine
with_serial n e =
    let p = e.session.presenting in
    record {
      session = with_presenting (record { serial = n; pending = p.pending; counters = p.counters; ended = p.ended }) e.session;
      presenting = e.presenting;
      receiving = e.receiving;
    }

-- the receiver when lot 7 was accepted, and when the direction has ended
abbrev pub one_past : Engine
one_past = after (arriving 80000 2 detail ∷ arriving 80000 3 (total 7) ∷ []) open_receiver

abbrev ended_receiver : Engine
ended_receiver = after (arriving 80000 1 (Sent.session_total 0 zeros) ∷ []) receiver

-- the presenter when its session total was answered with a code, when that ended its direction, and when both have ended
abbrev total_answered : Code → Engine
total_answered code = after (sending 80000 (Sent.session_total 0 zeros) ∷ replied 80000 End.near 1 (Sent.session_total 0 zeros) code ∷ []) presenter

abbrev ended_presenter : Engine
ended_presenter = total_answered Code.Accepted

abbrev both_ended : Engine
both_ended = after (receiving 80000 End.far 1 (Sent.session_total 0 zeros) ∷ []) ended_presenter

-- entity 0072 that represents eight, 0073 the last of them, with lot 7 open
abbrev representing : Engine
representing = after (arriving 80000 1 (Sent.header 7) ∷ []) (with_empty (start 140328 72 81 (replicate 7 0 ++ 73 ∷ [])).session)

-- the printed document with another drawee
abbrev pub with_drawee : (byte : ℕ) → Sent
with_drawee b = Sent.detail presented_number (drop head_bytes (with_byte 37 b printed))

-- a header but for its operation, which is none of 01's
abbrev strange : Call
strange = Call.receive 80000 (with_byte 15 0x02 (message_from End.near 1 (Sent.header 7)))

-- no lot is open, and lot 7 is
abbrev pub none_open : Option ℕ
none_open = None

abbrev pub seven_open : Option ℕ
seven_open = Some 7

-- 07, clause by clause: what the definitions of a message's place give. The rows of calls below, and those of Order, Known and Runs, cite the
-- definitions.
places :
    let cases : List (Case ℕ) =
    -- a header, and a session total: after the end, in a lot, between lots
    header_sequence true none_open is 7
    ∷ header_sequence false seven_open is 7
    ∷ header_sequence false none_open is 0
    ∷ session_total_sequence true none_open is 7
    ∷ session_total_sequence false seven_open is 7
    ∷ session_total_sequence false none_open is 0
    -- a detail, and a lot total as its presenter asks for it: after the end, with no lot open, in a lot
    ∷ lot_sequence true none_open is 7
    ∷ lot_sequence false none_open is 7
    ∷ lot_sequence false seven_open is 0
    -- a lot total as its receiver does: after the end, with no lot open, of another lot, with no detail, in its place
    ∷ lot_total_sequence true 7 none_open empty is 7
    ∷ lot_total_sequence false 7 none_open empty is 7
    ∷ lot_total_sequence false 8 seven_open (adding presented (totals 1 15000 30)) is 7
    ∷ lot_total_sequence false 7 seven_open empty is 7
    ∷ lot_total_sequence false 7 seven_open (adding presented (totals 1 15000 30)) is 0
    ∷ []
    in
    AllDue cases
unfolding computing
places = refl

-- Beside the starred cases, every other number that the state, the clock, the line or the buffer decides, each where it begins and where it does
-- not yet, and every close: one table, one theorem.
every_number :
    let cases : List (Case Answer) =
    -- 20, 30, 31, 32
    number_of presenter (sending 86400 (Sent.header 7)) is Answer.number 20
    ∷ number_of (after (Call.clock 80000 ∷ []) presenter) (sending 79999 (Sent.header 7)) is Answer.number 30
    ∷ number_of (after (Call.clock 80000 ∷ []) presenter) (sending 80000 (Sent.header 7)) is Answer.number 0
    ∷ number_of presenter (sending 75599 (Sent.header 7)) is Answer.number 31
    ∷ number_of presenter (sending 75600 (Sent.header 7)) is Answer.number 0
    ∷ number_of presenter (sending 84599 (Sent.session_total 0 zeros)) is Answer.number 0
    ∷ number_of presenter (sending 84600 (Sent.session_total 0 zeros)) is Answer.number 31
    ∷ number_of presenter (Call.clock 0) is Answer.number 0
    ∷ number_of (after (Call.clock 84600 ∷ []) presenter) (Call.clock 84601) is Answer.number 32
    -- 21, 33, 22, 35: what the line hands over
    ∷ number_of receiver (Call.receive 80000 (reply_to End.near 1 (Sent.header 7) Code.Accepted)) is Answer.number 21
    ∷ number_of presenter (Call.reply 80000 (message_from End.near 1 (Sent.header 7))) is Answer.number 21
    ∷ number_of presenter (Call.receive 80000 (message_from End.near 1 (Sent.header 7))) is Answer.number 33
    ∷ number_of receiver (Call.reply 80000 (reply_to End.near 1 (Sent.header 7) Code.Accepted)) is Answer.number 33
    ∷ number_of presenter (Call.reply 80000 (with_byte 16 0x13 (reply_to End.near 1 (Sent.header 7) Code.Accepted))) is Answer.number 22
    ∷ number_of presenter (replied 80000 End.near 1 (Sent.header 7) Code.Accepted) is Answer.number 35
    ∷ number_of (after (sending 80000 (Sent.header 7) ∷ []) presenter) (replied 80000 End.near 1 (Sent.header 7) Code.ForNothing) is Answer.number 0
    ∷ number_of (after (sending 80000 (Sent.header 7) ∷ []) presenter) (replied 80000 End.near 1 (total 7) Code.Accepted) is Answer.number 35
    ∷ number_of receiver (arriving 80000 2 (Sent.header 7)) is Answer.number 35
    -- 34, 36, 23
    ∷ number_of (after (sending 80000 (Sent.header 7) ∷ []) presenter) (sending 80000 (Sent.header 8)) is Answer.number 34
    ∷ number_of (with_serial 99999998 presenter) (sending 80000 (Sent.header 7)) is Answer.number 0
    ∷ number_of (with_serial 99999999 presenter) (sending 80000 (Sent.header 7)) is Answer.number 36
    ∷ number_in_room 30 presenter (sending 80000 (Sent.header 7)) is Answer.number 23
    ∷ number_in_room 31 presenter (sending 80000 (Sent.header 7)) is Answer.number 0
    ∷ number_in_room 15 receiver (arriving 80000 1 (Sent.header 7)) is Answer.number 23
    ∷ number_in_room 16 receiver (arriving 80000 1 (Sent.header 7)) is Answer.number 0
    -- 01 and 07 of a presenter's own calls
    ∷ number_of presenter (Call.send 80000 (Send.header 24000000 1 7)) is Answer.number 1
    ∷ number_of presenter (Call.send 80000 (Send.header moment 1 0)) is Answer.number 1
    ∷ number_of presenter (Call.send 80000 (Send.header moment 9999 7)) is Answer.number 0
    ∷ number_of presenter (Call.send 80000 (Send.header moment 10000 7)) is Answer.number 1
    ∷ number_of presenter (Call.send 80000 (Send.detail 31 (drop head_bytes printed))) is Answer.number 1
    ∷ number_of open_presenter (sending 80000 (Sent.header 8)) is Answer.number (header_sequence false seven_open)
    ∷ number_of presenter (sending 80000 detail) is Answer.number (lot_sequence false none_open)
    ∷ number_of presenter (sending 80000 (total 7)) is Answer.number (lot_sequence false none_open)
    ∷ number_of open_presenter (sending 80000 (Sent.session_total 0 zeros)) is Answer.number (session_total_sequence false seven_open)
    ∷ number_of open_presenter (sending 80000 (total 7)) is Answer.number 0
    ∷ number_of ended_presenter (sending 80000 (Sent.header 7)) is Answer.number (header_sequence true none_open)
    ∷ number_of ended_presenter (sending 80000 (Sent.session_total 0 zeros)) is Answer.number (session_total_sequence true none_open)
    -- 07 in replies
    ∷ reply_of open_receiver (arriving 80000 2 (Sent.header 8)) is Answer.reply 0 86 (header_sequence false seven_open) 7 0
    ∷ reply_of receiver (arriving 80000 1 detail) is Answer.reply 0 86 (lot_sequence false none_open) 0 0
    ∷ reply_of (after (arriving 80000 2 detail ∷ []) open_receiver) (arriving 80000 3 (total 8)) is Answer.reply 0 87 (lot_total_sequence false 8 seven_open (adding presented (totals 1 15000 30))) 0 0
    ∷ reply_of open_receiver (arriving 80000 2 (Sent.session_total 0 zeros)) is Answer.reply 0 97 (session_total_sequence false seven_open) 7 0
    ∷ reply_of ended_receiver (arriving 80000 2 (Sent.header 7)) is Answer.reply 0 86 (header_sequence true none_open) 0 0
    ∷ reply_of ended_receiver (arriving 80000 2 (Sent.session_total 0 zeros)) is Answer.reply 0 97 (session_total_sequence true none_open) 0 0
    -- 04, 11, 08
    ∷ reply_of one_past (arriving 80000 4 (Sent.header 7)) is Answer.reply 0 86 4 0 0
    ∷ reply_of (with_lots 63 receiver) (arriving 80000 1 (Sent.header 7)) is Answer.reply 0 86 0 7 0
    ∷ reply_of (with_lots 64 receiver) (arriving 80000 1 (Sent.header 7)) is Answer.reply 0 86 11 0 0
    ∷ number_of (with_lots 63 presenter) (sending 80000 (Sent.header 7)) is Answer.number 0
    ∷ number_of (with_lots 64 presenter) (sending 80000 (Sent.header 7)) is Answer.number 11
    ∷ reply_of (after (arriving 80000 2 detail ∷ []) open_receiver) (arriving 80000 3 (Sent.lot_total 7 (totals 1 15000 31))) is Answer.reply 0 87 8 0 0
    ∷ reply_of one_past (arriving 80000 4 (Sent.session_total 1 (totals 1 15000 30))) is Answer.reply 0 97 0 0 0
    ∷ reply_of one_past (arriving 80000 4 (Sent.session_total 2 (totals 1 15000 30))) is Answer.reply 0 97 8 0 0
    ∷ reply_of one_past (arriving 80000 4 (Sent.session_total 1 (totals 1 15001 30))) is Answer.reply 0 97 8 0 0
    -- 04 goes by what is stated, not by what was gathered
    ∷ reply_of five (arriving 80000 6 (Sent.lot_total 8 (totals 1 15000 31))) is Answer.reply 0 87 8 0 0
    -- 06 asks the represented entities too
    ∷ reply_of representing (arriving 80000 2 (with_drawee 0x73)) is Answer.reply 0 86 0 7 1
    ∷ reply_of representing (arriving 80000 2 (with_drawee 0x74)) is Answer.reply 0 86 6 7 0
    -- after 44 the lot goes on
    ∷ reply_of (after (arriving 80000 2 detail_for_nothing ∷ []) open_receiver) (arriving 80000 3 detail) is Answer.reply 0 86 0 7 1
    -- 01 for another operation; neither that nor a refused session total ends the direction, at either end
    ∷ reply_of receiver strange is Answer.reply 0 86 1 0 0
    ∷ reply_of (after (strange ∷ []) receiver) (arriving 80000 2 (Sent.header 7)) is Answer.reply 0 86 0 7 0
    ∷ reply_of (after (arriving 80000 1 (Sent.session_total 1 zeros) ∷ []) receiver) (arriving 80000 2 (Sent.header 7)) is Answer.reply 0 86 0 7 0
    ∷ number_of (total_answered Code.WrongTotals) (sending 80000 (Sent.header 7)) is Answer.number 0
    -- 24: a real date, of a leap year where it is 29 February; entities and how many; two different ones
    ∷ start_of 290228 81 72 [] is Answer.number 0
    ∷ start_of 290200 81 72 [] is Answer.number 0
    ∷ start_of 290227 81 72 [] is Answer.number 24
    ∷ start_of 290226 81 72 [] is Answer.number 24
    ∷ start_of 280227 81 72 [] is Answer.number 0
    ∷ start_of 300228 81 72 [] is Answer.number 24
    ∷ start_of 1140328 81 72 [] is Answer.number 24
    ∷ start_of 140328 9999 0 (replicate 8 9999) is Answer.number 0
    ∷ start_of 140328 10000 72 [] is Answer.number 24
    ∷ start_of 140328 81 10000 [] is Answer.number 24
    ∷ start_of 140328 81 81 [] is Answer.number 24
    ∷ start_of 140328 81 72 (replicate 9 0) is Answer.number 24
    ∷ start_of 140328 81 72 (10000 ∷ []) is Answer.number 24
    -- the close is in order where both directions have ended, and a second before the hour there is none
    ∷ close_of both_ended (Call.clock 84599) is Answer.close Close.Open
    ∷ close_of both_ended (Call.clock 84600) is Answer.close Close.Ordered
    ∷ close_of ended_presenter (Call.clock 84600) is Answer.close Close.Forced
    ∷ close_of ended_receiver (Call.clock 84600) is Answer.close Close.Forced
    ∷ close_of presenter (Call.clock 84600) is Answer.close Close.Forced
    ∷ []
    in
    AllDue cases
unfolding computing
every_number = refl
