-- What the code that moves counters asks: counters and running totals within their limits, and an accepted message one that may be accepted.
use Rattle.std.specs.Prelude.{◌≡◌, Bool, true}
use Rattle.session.specs.declared.counters.Course.{Course}
use Rattle.session.specs.declared.effect.Effect.{Effect}
use Rattle.session.specs.Limits.{most_lot_documents}
use Rattle.session.specs.Premise.{Fits, CountersSound, PendingSound, PendingCarried}

pub record Countable (effect : Effect) (accepted : Bool) (before : Course) : Type 0 where
  pub counters : CountersSound before.counters
  pub running : Fits most_lot_documents before.running
  pub sound : accepted ≡ true → PendingSound effect before.counters
  pub carried : accepted ≡ true → PendingCarried effect before.running
