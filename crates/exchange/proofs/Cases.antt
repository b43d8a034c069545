-- What an evening shows of a report, each number told from every other: computed rows, of what an evening without losses never ends with too.
use mathlib.Core.Path.{◌≡◌, refl}
use Prim.Native.Nat.{ℕ}
use lib.IntN.{pos, neg_ℤ}
use Rattle.amounts.specs.Totals.{totals}
use Rattle.document.specs.Operation.{presented as presented_byte}
use Rattle.session.specs.declared.report.Awaited.{Awaited}
use Rattle.session.specs.declared.report.Report.{Report}
use Rattle.session.specs.declared.session.Close.{Close}
use Rattle.session.specs.Running.{adding}
use Rattle.session.specs.Report.{positions}
use Rattle.exchange.specs.declared.shown.Sums.{Sums}
use Rattle.exchange.specs.declared.shown.Side.{Side}
use Rattle.exchange.specs.Evening.{side_of}

-- two lots presented and three received, with a close and what is awaited
abbrev reported : Close → Awaited → Report
reported close awaited =
    let presented = totals 11 900 40 in
    let received = totals 12 700 50 in
    record { presented = record { lots = 2; gathered = adding presented_byte presented }; received = record { lots = 3; gathered = adding presented_byte received }; close = close; positions = positions presented received; awaited = awaited }

abbrev sums : (lots documents nominal commission : ℕ) → Sums
sums lots documents nominal commission = record { lots = lots; documents = documents; nominal = nominal; commission = commission }

-- as it is shown: a nominal to be had, a commission that is owed
abbrev shown : (close awaited lot_number : ℕ) → Sums → Side
shown close awaited lot_number lot =
    record { presented = sums 2 11 900 40; received = sums 3 12 700 50; close = close; awaited = awaited; lot_number = lot_number; lot = lot; nominal_position = pos 200; commission_position = neg_ℤ (pos 10) }

-- a lot total awaited, its lot beside it; a session total; neither
lot_shown : side_of (reported Close.Forced (Awaited.LotTotal (record { number = 7; gathered = adding presented_byte (totals 13 600 60) }))) ≡ shown 2 1 7 (sums 0 13 600 60)
lot_shown = refl

session_total_shown : side_of (reported Close.Ordered Awaited.SessionTotal) ≡ shown 1 2 0 (sums 0 0 0 0)
session_total_shown = refl

neither_shown : side_of (reported Close.Open Awaited.Neither) ≡ shown 0 0 0 (sums 0 0 0 0)
neither_shown = refl
