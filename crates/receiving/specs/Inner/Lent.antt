-- What the code of a received message asks of the parts that it is lent: those of the premise that sums, places and the next serial need.
use Rattle.std.specs.Prelude.{ℕ, ◌≤◌, ◌≡◌, length, Option, Some, None}
use Rattle.std.specs.Coded.{×_prop, Unit-prop, le_prop}
use Rattle.std.proofs.Props.{props}
use Rattle.document.specs.Limits.{most_represented}
use Rattle.message.specs.Limits.{largest_serial}
use Rattle.session.specs.declared.parties.Parties.{Parties}
use Rattle.session.specs.declared.session.Receiving.{Receiving}
use Rattle.session.specs.Limits.{most_lot_documents, most_lots}
use Rattle.session.specs.declared.running.Running.{Running}
use Rattle.session.specs.Premise.{Fits, OpenSound, CountersSound}

pub record Lent (p : Parties) (t : Running) (r : Receiving) : Type 0 where
  pub represented : p.count ≤ most_represented
  pub serial : r.serial ≤ largest_serial
  pub counters : CountersSound r.counters
  pub places : length r.lots ≡ most_lots
  pub running : Fits most_lot_documents t

-- a struct keeps it, and so it has one proof at most, by cases of the open lot
pub OpenSound-prop : (lot : Option ℕ) (lots : ℕ) → IsProp (OpenSound lot lots)
OpenSound-prop None lots = Unit-prop
OpenSound-prop (Some n) lots = ×_prop le_prop le_prop

pub ruleset lent_props = (OpenSound-prop, props)
