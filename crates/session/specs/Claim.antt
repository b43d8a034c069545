-- Demand 3, 01's 'Both ends together': what holds of a direction, in which one end presents and the other receives, after any list of calls.
-- The theorem is `agreement` of proofs/Agreement. docs/AGREEMENT.md leads from the demand's sentences to the fields.
use Rattle.std.specs.Prelude.{ℕ, suc, ◌≡◌, List, [], ◌∷◌, ◌++◌, Some}
use Rattle.session.specs.declared.counters.Lot.{Lot}
use Rattle.session.specs.declared.report.Tally.{Tally}
use Rattle.session.specs.declared.report.Awaited.{Awaited}
use Rattle.session.specs.declared.report.Report.{Report}
use Rattle.session.specs.Report.{report}
use Rattle.session.specs.Running.{gather}
use Rattle.session.specs.Ledger.{LedgerLot, lot_sum, tallied, numbers, Distinct}
use Rattle.session.specs.Engine.{Call, Ready}
use Rattle.session.specs.Ends.{End, other, Event, World, Step, run, Possible, begun, StartsAccepted}
use Rattle.session.specs.Entering.{to_be_named, presenter_ledger_at, receiver_ledger_at}

-- of a direction in which the end p presents: confirmed lots are the presenter's list
abbrev pub confirmed : World → End → List LedgerLot
confirmed w p = (presenter_ledger_at p w.trace).ledger.lots

-- counted ones the receiver's
abbrev pub counted : World → End → List LedgerLot
counted w p = (receiver_ledger_at (other p) w.trace).ledger.lots

-- the report at an end
abbrev pub report_at : World → End → Report
report_at w x = report (w.engine x).session

-- the direction's totals in the presenter's report
abbrev pub presented_tally : World → End → Tally
presented_tally w p = (report_at w p).presented

-- and in the receiver's
abbrev pub received_tally : World → End → Tally
received_tally w p = (report_at w (other p)).received

-- the same lots at both ends, with the same documents and operations in the same order
abbrev pub Level : World → End → Type 0
Level w p = counted w p ≡ confirmed w p

-- a lot is the presenter's open one, document by document, and its report names it
pub record Named (w : World) (p : End) (lot : LedgerLot) : Type 0 where
  pub unconfirmed : (presenter_ledger_at p w.trace).ledger.current ≡ Some lot
  pub shown : (report_at w p).awaited ≡ Awaited.LotTotal (lot_sum lot)

-- what the receiver has counted beyond the confirmed lots: nothing, or exactly the named one
pub data Beyond (w : World) (p : End) : Type 0 where
  nothing : Level w p → Beyond w p
  one_lot : (lot : LedgerLot) → Named w p lot → counted w p ≡ confirmed w p ++ lot ∷ [] → Beyond w p

-- the latest call was a reply call at this end, and was not refused
pub record JustReplied (w : World) (p : End) : Type 0 where
  pub time : ℕ
  pub bytes : List ℕ
  pub said : List ℕ
  pub earlier : List Event
  pub latest : w.trace ≡ record { at = p; call = Call.reply time bytes; said = record { number = 0; bytes = said } } ∷ earlier

-- the claim about one direction, in which the end p presents
pub record Agreement (w : World) (p : End) : Type 0 where
  -- the clause on the lots
  pub agreed : Beyond w p
  -- on the numbers: none stands twice in either list
  pub counted_once : Distinct (numbers (counted w p))
  pub confirmed_once : Distinct (numbers (confirmed w p))
  -- on a report's totals: they are counts and sums over its end's list
  pub presented : presented_tally w p ≡ tallied (confirmed w p)
  pub received : received_tally w p ≡ tallied (counted w p)
  -- on what a report names: the open lot, with number, counts and sums (or a session total), from the send of its total that was not refused until the reply call for
  -- it that was not, and at no other time
  pub named : (report_at w p).awaited ≡ to_be_named (presenter_ledger_at p w.trace)
  -- the last sentence: right after that reply call, and after one for any other message, nothing is named and the ends are level
  pub settled : JustReplied w p → ((report_at w p).awaited ≡ Awaited.Neither) × Level w p
  -- beside the demand: the premise of every call holds at both ends, so the theorem is about the engine that runs
  pub ready : (x : End) → Ready (w.engine x)

-- What follows for the totals of the two reports, proved in proofs/Agreement. Those of level ends are equal (`level_totals`),
abbrev pub LevelTotals : World → End → Type 0
LevelTotals w p = Level w p → received_tally w p ≡ presented_tally w p

-- and where one lot is counted beyond, the receiver's are larger by exactly that (`totals_follow`).
abbrev pub one_more : Lot → Tally → Tally
one_more lot t = record { lots = suc t.lots; gathered = gather t.gathered lot.gathered }

abbrev pub TotalsFollow : (w : World) (p : End) → Beyond w p → Type 0
TotalsFollow w p (Beyond.nothing same) = received_tally w p ≡ presented_tally w p
TotalsFollow w p (Beyond.one_lot lot named more) = received_tally w p ≡ one_more (lot_sum lot) (presented_tally w p)

-- what holds after any list of calls: whatever the date, the pair and the represented entities of two starts that were not refused, after any calls
-- at either end, with any arguments, over a line that brings what was written and nothing else
abbrev pub AfterAnyCalls : (World → Type 0) → Type 0
AfterAnyCalls Holds = (date near_entity far_entity : ℕ) (represented : End → List ℕ) → StartsAccepted date near_entity far_entity represented → (steps : List Step) → Possible steps (begun date near_entity far_entity represented) → Holds (run steps (begun date near_entity far_entity represented))

-- one claim about a whole list of calls: after any, both directions agree
abbrev pub BothEndsTogether : Type 0
BothEndsTogether = AfterAnyCalls (λ (w : World). (p : End) → Agreement w p)
