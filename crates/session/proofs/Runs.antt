-- The agreement of both ends (specs/Claim) is not idle: lists of calls that the line allows, and what each leads to. Lots of both operations are
-- counted both ways; a lot is named that the other end has counted, one that it has not, and one when both have closed; a lost reply is found; a
-- lot is dropped and its number used again, while the line plays tricks.
use mathlib.Core.Path.{◌≡◌, refl}
use mathlib.Core.Bool.{Bool, true, false, false≢true, ◌&&◌, ◌||◌, cond}
use mathlib.Core.List.{List, [], ◌∷◌, ◌++◌}
use mathlib.Core.Logic.{◌⊎◌, inl, inr, ⊎_elim}
use Prim.Native.Nat.{ℕ, suc}
use lib.Dec.{eqb}
use lib.IntN.{pos, neg_ℤ}
use lib.ListN.{replicate}
use borrow.Author.Tests.{eqb-true}
use Rattle.std.specs.Prelude.{Some}
use Rattle.packed.specs.Part.{byte_at}
use Rattle.packed.proofs.Laws.Told.{both}
use Rattle.amounts.specs.Totals.{totals, zeros}
use Rattle.codes.specs.declared.code.Code.{Code}
use Rattle.codes.specs.Code.{code_numbered}
use Rattle.codes.specs.Field.{table_written}
use Rattle.document.specs.Fields.{document_fields}
use Rattle.document.specs.Operation.{presented, returned}
use Rattle.message.specs.declared.envelope.Kind.{Kind}
use Rattle.message.specs.Envelope.{kind_byte}
use Rattle.session.specs.declared.running.Running.{Running}
use Rattle.session.specs.declared.report.Tally.{Tally}
use Rattle.session.specs.declared.report.Awaited.{Awaited}
use Rattle.session.specs.declared.report.Positions.{Positions}
use Rattle.session.specs.declared.session.Close.{Close}
use Rattle.session.specs.Hours.{close}
use Rattle.session.specs.Reply.{reply_code}
use Rattle.session.specs.Running.{empty, adding, stated}
use Rattle.session.specs.Sequence.{lot_total_sequence}
use Rattle.session.specs.Ledger.{LedgerLot, of_operation}
use Rattle.session.specs.Engine.{Call}
use Rattle.session.specs.Ends.{End, other, Event, World, Step, act, run, WrittenBefore, Brought, Possible, begun}
use Rattle.session.specs.Claim.{confirmed, counted, report_at, presented_tally, received_tally}
use Rattle.session.proofs.Examples.{computing, buffer, Sent, message_from, reply_to, sending, receiving, replied}

-- whether bytes are those of an unrefused call, and so whether a list of calls is possible
abbrev equal_bytes : List ℕ → List ℕ → Bool
equal_bytes [] [] = true
equal_bytes [] (b ∷ bs) = false
equal_bytes (a ∷ rest) [] = false
equal_bytes (a ∷ rest) (b ∷ bs) = eqb a b && equal_bytes rest bs

abbrev is_written : List ℕ → List Event → Bool
is_written bytes [] = false
is_written bytes (e ∷ earlier) = eqb e.said.number 0 && equal_bytes e.said.bytes bytes || is_written bytes earlier

abbrev is_brought : Call → List Event → Bool
is_brought (Call.receive time bytes) trace = is_written bytes trace
is_brought (Call.reply time bytes) trace = is_written bytes trace
is_brought (Call.send time x) trace = true
is_brought (Call.clock time) trace = true
is_brought Call.report trace = true

abbrev is_possible : List Step → World → Bool
is_possible [] w = true
is_possible (s ∷ steps) w = is_brought s.call w.trace && is_possible steps (act s w)

-- where the tests hold, so it is
same_bytes : (one two : List ℕ) → equal_bytes one two ≡ true → one ≡ two
same_bytes [] [] e = refl
same_bytes [] (b ∷ bs) e = absurd (false≢true e)
same_bytes (a ∷ rest) [] e = absurd (false≢true e)
same_bytes (a ∷ rest) (b ∷ bs) e =
    let h = both (eqb a b) (equal_bytes rest bs) e in
    cc (eqb-true a b h.0, same_bytes rest bs h.1)

either : (a b : Bool) → a || b ≡ true → (a ≡ true) ⊎ (b ≡ true)
either true b e = inl refl
either false b e = inr e

written : (bytes : List ℕ) (trace : List Event) → is_written bytes trace ≡ true → WrittenBefore bytes trace
written bytes [] e = absurd (false≢true e)
written bytes (x ∷ earlier) e =
    let here = eqb x.said.number 0 in
    let same = equal_bytes x.said.bytes bytes in
    ⊎_elim (λ h. let t = both here same h in inl (eqb-true x.said.number 0 t.0, same_bytes x.said.bytes bytes t.1)) (λ r. inr (written bytes earlier r))
    (either (here && same) (is_written bytes earlier) e)

brought : (call : Call) (trace : List Event) → is_brought call trace ≡ true → Brought call trace
brought (Call.receive time bytes) trace e = written bytes trace e
brought (Call.reply time bytes) trace e = written bytes trace e
brought (Call.send time x) trace e = tt
brought (Call.clock time) trace e = tt
brought Call.report trace e = tt

possible : (steps : List Step) (w : World) → is_possible steps w ≡ true → Possible steps w
unfolding Possible
possible [] w e = tt
possible (s ∷ steps) w e =
    let next = act s w in
    let h = both (is_brought s.call w.trace) (is_possible steps next) e in
    (brought s.call w.trace h.0, possible steps next h.1)

-- how a direction stands: the lots of both ends, the totals in their reports, and what else the presenter's report shows
record Standing : Type 0 where
  counted : List LedgerLot
  confirmed : List LedgerLot
  received : Tally
  presented : Tally
  awaited : Awaited
  close : Close
  positions : Positions

abbrev standing : World → End → Standing
standing w p =
    record {
      counted = counted w p;
      confirmed = confirmed w p;
      received = received_tally w p;
      presented = presented_tally w p;
      awaited = (report_at w p).awaited;
      close = (report_at w p).close;
      positions = (report_at w p).positions;
    }

-- the numbers of the refused calls, and the codes of the replies that were written, the latest first
abbrev refusals : List Event → List ℕ
refusals [] = []
refusals (e ∷ earlier) = cond (eqb e.said.number 0) (refusals earlier) (e.said.number ∷ refusals earlier)

abbrev codes : List Event → List ℕ
codes [] = []
codes (e ∷ earlier) = cond (eqb (byte_at 1 e.said.bytes) (kind_byte Kind.Reply)) (reply_code e.said.bytes ∷ codes earlier) (codes earlier)

-- and both of them, beside what the calls answered
record Shown : Type 0 where
  refused : List ℕ
  replies : List ℕ
  near : Standing
  far : Standing

abbrev shown : World → Shown
shown w = record { refused = refusals w.trace; replies = codes w.trace; near = standing w End.near; far = standing w End.far }

-- both ends, just started
abbrev just_started : World
just_started = begun 140328 81 72 (λ (x : End). [])

-- calls that can be made, and what they lead to
record Leads (steps : List Step) (to : Shown) : Type 0 where
  possible : Possible steps just_started
  leads : shown (run steps just_started) ≡ to

-- a message is sent, it arrives, and a reply to it does
abbrev sent : End → Sent → Step
sent p x = record { at = p; call = sending 80000 x; line = buffer }

abbrev arrived : End → (serial : ℕ) → Sent → Step
arrived p serial x = record { at = other p; call = receiving 80000 p serial x; line = buffer }

abbrev answered : (time : ℕ) → End → (serial : ℕ) → Sent → Code → Step
answered time p serial x code = record { at = p; call = replied time p serial x code; line = buffer }

-- messages of an end, from a serial on, that get through and are accepted
abbrev exchanged : End → (serial : ℕ) → List Sent → List Step
exchanged p serial [] = []
exchanged p serial (x ∷ xs) = sent p x ∷ arrived p serial x ∷ answered 80000 p serial x Code.Accepted ∷ exchanged p (suc serial) xs

-- both clocks reach 23:30; a second before nothing is closed, or the next clock call would be refused
abbrev closed : List Step
closed = record { at = End.near; call = Call.clock 84599; line = buffer } ∷ record { at = End.near; call = Call.clock close; line = buffer } ∷ record { at = End.far; call = Call.clock close; line = buffer } ∷ []

-- a document that goes to an entity, by its taker and its drawee
abbrev document : (entity taker drawee nominal commission : ℕ) → List ℕ
document entity taker drawee nominal commission =
    table_written (document_fields presented entity)
    (1 ∷ 0 ∷ 2434157 ∷ 1403 ∷ taker ∷ 110 ∷ 28 ∷ entity ∷ 8 ∷ 810110 ∷ nominal ∷ drawee ∷ 110 ∷ 123456 ∷ 1 ∷ 1 ∷ commission ∷ 0 ∷ [])

-- what an entity presents it took, and the other is to pay; what it returns the other took, and it does not pay
abbrev cheque : (from to nominal commission : ℕ) → List ℕ
cheque from to nominal commission = document to from to nominal commission

abbrev unpaid : (from to nominal commission : ℕ) → List ℕ
unpaid from to nominal commission = document to to from nominal commission

-- what is gathered of some documents, which are counted together
abbrev together : (documents nominal commission : ℕ) → Running
together documents nominal commission = adding presented (totals documents nominal commission)

abbrev tally : (lots : ℕ) → Running → Tally
tally lots t = record { lots = lots; gathered = t }

-- positions of an end that gets, and of one that owes, and of one that does neither
abbrev gets : (nominal commission : ℕ) → Positions
gets nominal commission = record { nominal = pos nominal; commission = pos commission }

abbrev owes : (nominal commission : ℕ) → Positions
owes nominal commission = record { nominal = neg_ℤ (pos nominal); commission = neg_ℤ (pos commission) }

abbrev even : Positions
even = gets 0 0

-- the same lots at both ends, and nothing awaited
abbrev level : List LedgerLot → Tally → Close → Positions → Standing
level lots t close positions = record { counted = lots; confirmed = lots; received = t; presented = t; awaited = Awaited.Neither; close = close; positions = positions }

-- Lots of presented documents and of returns go both ways, then both session totals, and both ends close in order.
abbrev near7 : LedgerLot
near7 = record { number = 7; documents = of_operation presented (cheque 81 72 15000 30 ∷ cheque 81 72 22000 45 ∷ []) ++ of_operation returned (unpaid 81 72 7000 0 ∷ []) }

abbrev near8 : LedgerLot
near8 = record { number = 8; documents = of_operation returned (unpaid 81 72 500 1 ∷ []) }

abbrev far7 : LedgerLot
far7 = record { number = 7; documents = of_operation returned (unpaid 72 81 9000 10 ∷ []) ++ of_operation presented (cheque 72 81 1000 2 ∷ []) }

abbrev full : List Step
full =
    exchanged End.near 1 (Sent.header 7 ∷ Sent.detail 30 (cheque 81 72 15000 30 ++ cheque 81 72 22000 45) ∷ [])
    ++ exchanged End.far 1 (Sent.header 7 ∷ Sent.detail 40 (unpaid 72 81 9000 10) ∷ Sent.detail 30 (cheque 72 81 1000 2) ∷ [])
    ++ exchanged End.near 3 (Sent.detail 40 (unpaid 81 72 7000 0) ∷ Sent.lot_total 7 (totals 3 44000 75) ∷ Sent.header 8 ∷ Sent.detail 40 (unpaid 81 72 500 1) ∷ [])
    ++ exchanged End.far 4 (Sent.lot_total 7 (totals 2 10000 12) ∷ Sent.session_total 1 (totals 2 10000 12) ∷ [])
    ++ exchanged End.near 7 (Sent.lot_total 8 (totals 1 500 1) ∷ Sent.session_total 2 (totals 4 44500 76) ∷ [])
    ++ closed

both_ways : Leads full (record {
  refused = [];
  replies = replicate 13 0;
  near = level (near7 ∷ near8 ∷ []) (tally 2 (together 4 44500 76)) Close.Ordered (gets 34500 64);
  far = level (far7 ∷ []) (tally 1 (together 2 10000 12)) Close.Ordered (owes 34500 64);
})
unfolding computing
both_ways = record { possible = possible full just_started refl; leads = refl }

-- lots of one document each, with the same totals
abbrev one : Running
one = together 1 15000 30

abbrev lot : (number : ℕ) → LedgerLot
lot n = record { number = n; documents = of_operation presented (cheque 81 72 15000 30 ∷ []) }

abbrev opening : (number : ℕ) → List Sent
opening n = Sent.header n ∷ Sent.detail 30 (cheque 81 72 15000 30) ∷ []

-- the presenter's report names the lot
abbrev naming : (number : ℕ) → Awaited
naming n = Awaited.LotTotal (record { number = n; gathered = one })

-- The total of a lot arrives twice, and no reply comes back.
abbrev lost : List Step
lost = exchanged End.near 1 (opening 7) ++ sent End.near (Sent.lot_total 7 (stated one)) ∷ arrived End.near 3 (Sent.lot_total 7 (stated one)) ∷ arrived End.near 3 (Sent.lot_total 7 (stated one)) ∷ []

abbrev ahead : Close → Standing
ahead close = record { counted = lot 7 ∷ []; confirmed = []; received = tally 1 one; presented = tally 0 empty; awaited = naming 7; close = close; positions = even }

named_and_counted : Leads lost (record { refused = []; replies = replicate 4 0; near = ahead Close.Open; far = level [] (tally 0 empty) Close.Open (owes 15000 30) })
unfolding computing
named_and_counted = record { possible = possible lost just_started refl; leads = refl }

-- Then one of the two replies comes, and the other after it, which is for nothing that is awaited.
abbrev found : List Step
found = lost ++ answered 80000 End.near 3 (Sent.lot_total 7 (stated one)) Code.Accepted ∷ answered 80000 End.near 3 (Sent.lot_total 7 (stated one)) Code.Accepted ∷ []

settled_late : Leads found (record { refused = 35 ∷ []; replies = replicate 4 0; near = level (lot 7 ∷ []) (tally 1 one) Close.Open (gets 15000 30); far = level [] (tally 0 empty) Close.Open (owes 15000 30) })
unfolding computing
settled_late = record { possible = possible found just_started refl; leads = refl }

-- A header is handed back to its own end, to the reply call, and its reply to receiving. A detail for nothing is not sent, one of a drawee that is not
-- served gets 06, so the lot is ended by a total of zeros, with 07; its number is used again.
abbrev stray : Sent
stray = Sent.detail 30 (document 72 81 9999 500 1)

abbrev for_nothing : Sent
for_nothing = Sent.detail 30 (cheque 81 72 0 30)

-- the code of a lot total that no detail came before
abbrev no_detail : ℕ
no_detail = lot_total_sequence false 7 (Some 7) empty

abbrev again : List Step
again =
    sent End.near (Sent.header 7)
    ∷ record { at = End.near; call = receiving 80000 End.near 1 (Sent.header 7); line = buffer }
    ∷ record { at = End.near; call = Call.reply 80000 (message_from End.near 1 (Sent.header 7)); line = buffer }
    ∷ arrived End.near 1 (Sent.header 7)
    ∷ record { at = End.far; call = Call.receive 80000 (reply_to End.near 1 (Sent.header 7) Code.Accepted); line = buffer }
    ∷ answered 80000 End.near 1 (Sent.header 7) Code.Accepted
    ∷ sent End.near for_nothing
    ∷ sent End.near stray
    ∷ arrived End.near 2 stray
    ∷ answered 80000 End.near 2 stray Code.WrongDrawee
    ∷ sent End.near (Sent.lot_total 7 zeros)
    ∷ arrived End.near 3 (Sent.lot_total 7 zeros)
    ∷ answered 80000 End.near 3 (Sent.lot_total 7 zeros) (code_numbered no_detail)
    ∷ exchanged End.near 4 (opening 7 ++ Sent.lot_total 7 (stated one) ∷ [])

number_used_again : Leads again (record { refused = 44 ∷ 21 ∷ 21 ∷ 33 ∷ []; replies = 0 ∷ 0 ∷ 0 ∷ no_detail ∷ 6 ∷ 0 ∷ []; near = level (lot 7 ∷ []) (tally 1 one) Close.Open (gets 15000 30); far = level [] (tally 0 empty) Close.Open (owes 15000 30) })
unfolding computing
number_used_again = record { possible = possible again just_started refl; leads = refl }

-- A second lot has the totals of the first: the receiver replies 04, and the reply is lost.
abbrev duplicate : List Step
duplicate =
    exchanged End.near 1 (opening 7 ++ Sent.lot_total 7 (stated one) ∷ opening 8) ++ sent End.near (Sent.lot_total 8 (stated one)) ∷ arrived End.near 6 (Sent.lot_total 8 (stated one)) ∷ []

named_not_counted : Leads duplicate (record {
  refused = [];
  replies = 4 ∷ replicate 5 0;
  near = record { counted = lot 7 ∷ []; confirmed = lot 7 ∷ []; received = tally 1 one; presented = tally 1 one; awaited = naming 8; close = Close.Open; positions = gets 15000 30 };
  far = level [] (tally 0 empty) Close.Open (owes 15000 30);
})
unfolding computing
named_not_counted = record { possible = possible duplicate just_started refl; leads = refl }

-- After the close the lost reply comes, and is refused with 32.
abbrev late : List Step
late = lost ++ closed ++ answered close End.near 3 (Sent.lot_total 7 (stated one)) Code.Accepted ∷ record { at = End.near; call = Call.report; line = buffer } ∷ []

named_after_close : Leads late (record { refused = 32 ∷ []; replies = replicate 4 0; near = ahead Close.Forced; far = level [] (tally 0 empty) Close.Forced (owes 15000 30) })
unfolding computing
named_after_close = record { possible = possible late just_started refl; leads = refl }
