-- A struct keeps the premise, and so it has one proof at most, by cases of what is pending; for the open lot, as for a hearer's.
use Rattle.std.proofs.Props.{props}
use Rattle.receiving.specs.Inner.Lent.{lent_props}
use Rattle.session.specs.declared.counters.Counters.{Counters}
use Rattle.session.specs.declared.effect.Effect.{Effect}
use Rattle.session.specs.declared.running.Running.{Running}
use Rattle.session.specs.Premise.{PendingSound, PendingCarried}

pub PendingSound-prop : (e : Effect) (c : Counters) → IsProp (PendingSound e c)
PendingSound-prop Effect.Nothing c = hlevel props
PendingSound-prop (Effect.Header n) c = hlevel props
PendingSound-prop (Effect.Detail more) c = hlevel props
PendingSound-prop (Effect.LotTotal lot) c = hlevel props
PendingSound-prop Effect.SessionTotal c = hlevel props

pub PendingCarried-prop : (e : Effect) (t : Running) → IsProp (PendingCarried e t)
PendingCarried-prop Effect.Nothing t = hlevel props
PendingCarried-prop (Effect.Header n) t = hlevel props
PendingCarried-prop (Effect.Detail more) t = hlevel props
PendingCarried-prop (Effect.LotTotal lot) t = hlevel props
PendingCarried-prop Effect.SessionTotal t = hlevel props

pub ruleset ready_props = (PendingSound-prop, PendingCarried-prop, lent_props)
