-- 01, 'Course of a direction': the report, which is never refused and changes nothing.
use Rattle.amounts.specs.declared.Totals.{Totals}
use Rattle.amounts.specs.Difference.{difference}
use Rattle.session.specs.declared.counters.Counters.{Counters}
use Rattle.session.specs.declared.effect.Effect.{Effect}
use Rattle.session.specs.declared.report.Tally.{Tally}
use Rattle.session.specs.declared.report.Awaited.{Awaited}
use Rattle.session.specs.declared.report.Positions.{Positions}
use Rattle.session.specs.declared.report.Report.{Report}
use Rattle.session.specs.declared.session.Session.{Session}
use Rattle.session.specs.Running.{stated}

-- the totals of a direction: its accepted lots
abbrev pub tally : Counters → Tally
tally c = record { lots = c.lots; gathered = c.gathered }

-- what awaits a reply: a lot total with its lot, a session total, or neither
abbrev pub awaited : Effect → Awaited
awaited (Effect.LotTotal lot) = Awaited.LotTotal lot
awaited Effect.SessionTotal = Awaited.SessionTotal
awaited Effect.Nothing = Awaited.Neither
awaited (Effect.Header number) = Awaited.Neither
awaited (Effect.Detail more) = Awaited.Neither

-- presented less received
abbrev pub positions : (presented received : Totals) → Positions
positions p r = record { nominal = difference p.nominal.0 r.nominal.0; commission = difference p.commission.0 r.commission.0 }

-- all of it
unfoldable pub report : Session → Report
report s =
    record {
      presented = tally s.presenting.counters;
      received = tally s.receiving.counters;
      close = s.close;
      positions = positions (stated s.presenting.counters.gathered) (stated s.receiving.counters.gathered);
      awaited = awaited s.presenting.pending;
    }
