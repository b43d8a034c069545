-- A whole evening as C sees it: a code, and both reports in plain numbers.
use Rattle.std.specs.Prelude.{ℕ, cond, List, [], eqb, pos, replicate}
use Rattle.codes.specs.Chain.{◌orelse◌}
use Rattle.outgoing.specs.Outgoing.{check_code}
use Rattle.session.specs.declared.counters.Lot.{Lot}
use Rattle.session.specs.declared.report.Awaited.{Awaited}
use Rattle.session.specs.declared.report.Report.{Report}
use Rattle.session.specs.declared.session.Close.{Close}
use Rattle.session.specs.Hours.{close}
use Rattle.session.specs.declared.running.Running.{Running}
use Rattle.session.specs.Running.{empty, stated}
use Rattle.session.specs.Start.{start}
use Rattle.session.specs.Report.{report}
use Rattle.session.specs.Engine.{Call, Engine, with_empty, performed}
use Rattle.exchange.specs.declared.shown.Sums.{Sums}
use Rattle.exchange.specs.declared.shown.Side.{Side}
use Rattle.exchange.specs.declared.shown.Evening.{Evening}
use Rattle.message.specs.Limits.{message_room, reply_room}
use Rattle.exchange.specs.Fixed.{date, near, far}
use Rattle.exchange.specs.Course.{Ends, both_directions}

-- counts and sums in plain numbers, of so many lots
abbrev pub sums_of : (lots : ℕ) → Running → Sums
sums_of lots r = let t = stated r in record { lots = lots; documents = t.documents.0; nominal = t.nominal.0; commission = t.commission.0 }

-- 0 for open, 1 for in order, 2 for forced
abbrev pub close_number : Close → ℕ
close_number Close.Open = 0
close_number Close.Ordered = 1
close_number Close.Forced = 2

-- 0 for neither, 1 for a lot total, 2 for a session total
abbrev pub awaited_number : Awaited → ℕ
awaited_number Awaited.Neither = 0
awaited_number (Awaited.LotTotal lot) = 1
awaited_number Awaited.SessionTotal = 2

-- the lot whose total is awaited; where none is, one of number 0 and no documents
abbrev pub no_lot : Lot
no_lot = record { number = 0; gathered = empty }

abbrev pub awaited_lot : Awaited → Lot
awaited_lot (Awaited.LotTotal lot) = lot
awaited_lot Awaited.Neither = no_lot
awaited_lot Awaited.SessionTotal = no_lot

-- a report in plain numbers; an awaited lot is not among the accepted ones, so its sums count no lot
abbrev pub side_of : Report → Side
side_of r =
    record {
      presented = sums_of r.presented.lots r.presented.gathered;
      received = sums_of r.received.lots r.received.gathered;
      close = close_number r.close;
      awaited = awaited_number r.awaited;
      lot_number = (awaited_lot r.awaited).number;
      lot = sums_of 0 (awaited_lot r.awaited).gathered;
      nominal_position = r.positions.nominal;
      commission_position = r.positions.commission;
    }

-- what stands beside a code
abbrev pub no_sums : Sums
no_sums = sums_of 0 empty

abbrev pub no_side : Side
no_side =
    record {
      presented = no_sums;
      received = no_sums;
      close = 0;
      awaited = 0;
      lot_number = 0;
      lot = no_sums;
      nominal_position = pos 0;
      commission_position = pos 0;
    }

-- an end after its clock call at the close, which uses no line buffer
unfoldable pub closed_end : Engine → Engine
closed_end e = (performed (Call.clock close) [] e).engine

-- and its report
unfoldable pub closed_side : Engine → Side
closed_side e = side_of (report (closed_end e).session)

-- an end just started, with nobody represented
abbrev pub started_end : (own partner : ℕ) → Engine
started_end own partner = with_empty (start date own partner []).session

-- both ends at the beginning, the near one to present first, and line buffers of zeros
unfoldable pub beginning : Ends
beginning = record { presenter = started_end near far; receiver = started_end far near; message = replicate message_room 0; reply = replicate reply_room 0 }

-- after both directions the far end is the one that has presented
abbrev pub shown_of : Ends → Evening
shown_of e = record { code = 0; near_side = closed_side e.receiver; far_side = closed_side e.presenter }

unfoldable pub evening : (near_presentations near_returns far_presentations far_returns : List ℕ) → Evening
evening near_presentations near_returns far_presentations far_returns = shown_of (both_directions near_presentations near_returns far_presentations far_returns beginning)

-- 25 where a tray is bad
unfoldable pub trays_code : (near_presentations near_returns far_presentations far_returns : List ℕ) → ℕ
trays_code near_presentations near_returns far_presentations far_returns = check_code near_presentations near_returns 0 0 orelse check_code far_presentations far_returns 0 0

-- the evening, or the code with nothing beside it
unfoldable pub exchanged : (near_presentations near_returns far_presentations far_returns : List ℕ) → Evening
exchanged near_presentations near_returns far_presentations far_returns =
    let code = trays_code near_presentations near_returns far_presentations far_returns in
    cond (eqb code 0) (evening near_presentations near_returns far_presentations far_returns) (record { code = code; near_side = no_side; far_side = no_side })
