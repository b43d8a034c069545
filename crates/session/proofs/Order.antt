-- 01, 'Order, first that applies', and 02, card 6: of each printed line, and of the codes that each message can earn, every two neighbours in a case
-- where both apply, beside the first of them: one table, one theorem. The codes that bytes alone decide are in order among themselves in the tables
-- of `message` and of `detail`; here each message has its last one before 07.
use mathlib.Core.Path.{refl}
use mathlib.Core.Bool.{false}
use mathlib.Core.List.{List, [], ◌∷◌}
use Prim.Native.Nat.{ℕ}
use Rattle.amounts.specs.Totals.{totals, zeros}
use Rattle.codes.specs.declared.code.Code.{Code}
use Rattle.codes.proofs.Cases.{Case, ◌is◌, AllDue, with_byte}
use Rattle.session.specs.Hours.{preclose, cut_off}
use Rattle.session.specs.Limits.{most_lot_documents, most_lots}
use Rattle.session.specs.Running.{empty}
use Rattle.session.specs.Sequence.{header_sequence, lot_sequence, lot_total_sequence, session_total_sequence}
use Rattle.session.specs.Engine.{Call, Engine}
use Rattle.session.specs.Ends.{End}
use Rattle.session.proofs.Examples.{computing, Sent, message_from, reply_to, sending}
use Rattle.session.proofs.Cases.{Answer, number_of, number_in_room, reply_of, presenter, receiver, arriving, after, open_presenter, open_receiver, holding, detail, detail_for_nothing, total, five, with_lots, with_serial, one_past, none_open, seven_open}

-- at the close, and with a header that awaits its reply
abbrev closed : Engine
closed = after (Call.clock 84600 ∷ []) presenter

abbrev awaiting : Engine
awaiting = after (sending 80000 (Sent.header 7) ∷ []) presenter

-- a reply with an unknown code; a message whose last byte, which is an amount's, is no digit
abbrev unknown_reply : Call
unknown_reply = Call.reply 80000 (with_byte 16 0x13 (reply_to End.near 1 (Sent.header 7) Code.Accepted))

abbrev no_digit : (serial bytes : ℕ) → Sent → Call
no_digit serial bytes x = Call.receive 80000 (with_byte bytes 0x0A (message_from End.near serial x))

in_order :
    let cases : List (Case Answer) =
    -- all calls with a time: 20, 32, 30, 31, and then the call's own
    number_of closed (Call.clock 86400) is Answer.number 20
    ∷ number_of closed (Call.clock 84599) is Answer.number 32
    ∷ number_of (after (Call.clock 80000 ∷ []) presenter) (sending 75599 (Sent.header 7)) is Answer.number 30
    ∷ number_of receiver (Call.receive 75599 []) is Answer.number 31
    ∷ number_of presenter (Call.reply 75599 []) is Answer.number 31
    ∷ number_of awaiting (sending 84600 (Sent.header 7)) is Answer.number 31
    -- receiving: 21, 33, 35, 23, then codes
    ∷ number_of presenter (Call.receive 80000 (reply_to End.near 1 (Sent.header 7) Code.Accepted)) is Answer.number 21
    ∷ number_of presenter (Call.receive 80000 (message_from End.near 2 (Sent.header 7))) is Answer.number 33
    ∷ number_in_room 15 receiver (arriving 80000 2 (Sent.header 7)) is Answer.number 35
    ∷ number_in_room 15 receiver (arriving 80000 1 detail) is Answer.number 23
    -- reply: 21, 33, 22, 35
    ∷ number_of receiver (Call.reply 80000 (message_from End.near 1 (Sent.header 7))) is Answer.number 21
    ∷ number_of receiver unknown_reply is Answer.number 33
    ∷ number_of presenter unknown_reply is Answer.number 22
    -- sending: 34, 36, codes, 23
    ∷ number_of (with_serial 99999999 awaiting) (sending 80000 (Sent.header 7)) is Answer.number 34
    ∷ number_of (with_serial 99999999 presenter) (sending preclose (Sent.header 7)) is Answer.number 36
    ∷ number_in_room 30 presenter (sending preclose (Sent.header 7)) is Answer.number 10
    -- a header sent: 01, 07, 10, 11
    ∷ number_of open_presenter (sending 80000 (Sent.header 0)) is Answer.number 1
    ∷ number_of open_presenter (sending preclose (Sent.header 8)) is Answer.number (header_sequence false seven_open)
    ∷ number_of (with_lots most_lots presenter) (sending preclose (Sent.header 7)) is Answer.number 10
    -- received: 01, 07, 10, 04, 11
    ∷ reply_of open_receiver (arriving 80000 2 (Sent.header 0)) is Answer.reply 0 86 1 7 0
    ∷ reply_of open_receiver (arriving cut_off 2 (Sent.header 8)) is Answer.reply 0 86 (header_sequence false seven_open) 7 0
    ∷ reply_of one_past (arriving cut_off 4 (Sent.header 7)) is Answer.reply 0 86 10 0 0
    ∷ reply_of (with_lots most_lots one_past) (arriving 80000 4 (Sent.header 7)) is Answer.reply 0 86 4 0 0
    -- a detail sent: its own codes, then 07, 12; no calls lead to documents with no lot open, so 07 before 12 is of the definitions alone
    ∷ number_of presenter (sending 80000 detail_for_nothing) is Answer.number 44
    ∷ number_of (holding most_lot_documents presenter) (sending 80000 detail) is Answer.number (lot_sequence false none_open)
    -- received
    ∷ reply_of receiver (arriving 80000 1 detail_for_nothing) is Answer.reply 0 86 44 0 0
    ∷ reply_of (holding most_lot_documents receiver) (arriving 80000 1 detail) is Answer.reply 0 86 (lot_sequence false none_open) 0 most_lot_documents
    -- a lot total received: 03, 07, 04, 08
    ∷ reply_of receiver (no_digit 1 34 (total 7)) is Answer.reply 0 87 3 0 0
    ∷ reply_of one_past (arriving 80000 4 (total 8)) is Answer.reply 0 87 (lot_total_sequence false 8 none_open empty) 0 0
    ∷ reply_of (after (arriving 80000 6 detail ∷ []) five) (arriving 80000 7 (total 8)) is Answer.reply 0 87 4 0 0
    -- a session total received: 03, 07, 08
    ∷ reply_of open_receiver (no_digit 2 37 (Sent.session_total 0 zeros)) is Answer.reply 0 97 3 7 0
    ∷ reply_of open_receiver (arriving 80000 2 (Sent.session_total 1 (totals 1 15000 30))) is Answer.reply 0 97 (session_total_sequence false seven_open) 7 0
    ∷ []
    in
    AllDue cases
unfolding computing
in_order = refl
