-- 02, card 6: 'Lots already accepted keep theirs, in totals and in reports, and are not examined again.' Sessions from before, in which a document for
-- nothing was gathered: no premise forbids them, and the lot total, the session total and the report are what they were.
use mathlib.Core.Path.{refl}
use mathlib.Core.List.{List, [], ◌∷◌}
use native.Mathlib.Omega.{arith}
use lib.IntN.{pos}
use Rattle.amounts.specs.Totals.{totals}
use Rattle.codes.specs.declared.code.Code.{Code}
use Rattle.codes.proofs.Cases.{Case, ◌is◌, AllDue}
use Rattle.document.specs.Operation.{presented}
use Rattle.session.specs.declared.report.Awaited.{Awaited}
use Rattle.session.specs.declared.report.Report.{Report}
use Rattle.session.specs.declared.running.Running.{Running}
use Rattle.session.specs.declared.session.Close.{Close}
use Rattle.session.specs.Limits.{most_lot_documents}
use Rattle.session.specs.Premise.{Fits}
use Rattle.session.specs.Report.{report}
use Rattle.session.specs.Running.{empty, adding}
use Rattle.session.specs.Engine.{Call, Engine, performed, Ready}
use Rattle.session.specs.Ends.{End}
use Rattle.session.proofs.Laws.EveryCall.{ready_kept}
use Rattle.session.proofs.Laws.Sound.{begun}
use Rattle.session.proofs.Examples.{computing, buffer, Sent, sending, replied}
use Rattle.session.proofs.Cases.{Answer, number_of, reply_of, presenter, receiver, arriving, after, open_presenter, open_receiver}

-- one document for nothing, and the total of a lot that has it alone
abbrev one : Running
one = adding presented (totals 1 0 0)

abbrev total : Sent
total = Sent.lot_total 7 (totals 1 0 0)

-- it was gathered in lot 7, which is open, by its presenter and by its receiver; and the receiver has accepted the lot
abbrev presenter_before : Engine
presenter_before = record { session = open_presenter.session; presenting = one; receiving = open_presenter.receiving }

abbrev receiver_before : Engine
receiver_before = record { session = open_receiver.session; presenting = open_receiver.presenting; receiving = one }

abbrev accepted_before : Engine
accepted_before = after (arriving 80000 2 total ∷ []) receiver_before

still_ended :
    let cases : List (Case Answer) =
    number_of presenter_before (sending 80000 total) is Answer.number 0
    ∷ reply_of receiver_before (arriving 80000 2 total) is Answer.reply 0 87 0 0 0
    ∷ reply_of accepted_before (arriving 80000 3 (Sent.session_total 1 (totals 1 0 0))) is Answer.reply 0 97 0 0 0
    ∷ []
    in
    AllDue cases
unfolding computing
still_ended = refl

-- one lot, one document, nominal 0, commission 0
still_reported :
    let cases : List (Case Report) =
    report accepted_before.session is record {
      presented = record { lots = 0; gathered = empty };
      received = record { lots = 1; gathered = one };
      close = Close.Open;
      positions = record { nominal = pos 0; commission = pos 0 };
      awaited = Awaited.Neither;
    }
    ∷ []
    in
    AllDue cases
unfolding computing
still_reported = refl

-- the premise of every call holds of all three, so each call on them does what its contract says
one_fits : Fits most_lot_documents one
one_fits = record { documents = omega arith; nominal = omega arith; commission = omega arith }

ready_after : (calls : List Call) (e : Engine) → Ready e → Ready (after calls e)
ready_after [] e ready = ready
ready_after (call ∷ calls) e ready = ready_after calls (performed call buffer e).engine (ready_kept call buffer e ready)

pub presenter_ready : Ready presenter_before
unfolding computing
presenter_ready =
    let opened = ready_after (sending 80000 (Sent.header 7) ∷ replied 80000 End.near 1 (Sent.header 7) Code.Accepted ∷ []) presenter (begun 140328 81 72 []) in
    record { sound = opened.sound; presenting = record { fits = one_fits; pending = tt }; receiving = opened.receiving }

pub receiver_ready : Ready receiver_before
unfolding computing
receiver_ready =
    let opened = ready_after (arriving 80000 1 (Sent.header 7) ∷ []) receiver (begun 140328 72 81 []) in
    record { sound = opened.sound; presenting = opened.presenting; receiving = record { fits = one_fits; pending = tt } }

pub accepted_ready : Ready accepted_before
accepted_ready = ready_after (arriving 80000 2 total ∷ []) receiver_before receiver_ready
