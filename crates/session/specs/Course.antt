-- 01, 'Course of a direction': how counters move when the reply to a message is known, at either end.
use Rattle.std.specs.Prelude.{ℕ, suc, Bool, true, false, List, set, Option, Some, None}
use Rattle.session.specs.declared.counters.Lot.{Lot}
use Rattle.session.specs.declared.counters.Counters.{Counters}
use Rattle.session.specs.declared.counters.Course.{Course}
use Rattle.session.specs.declared.effect.Effect.{Effect}
use Rattle.session.specs.declared.running.Running.{Running}
use Rattle.session.specs.Running.{empty, gather}

-- counters, and the running totals beside them
abbrev pub course : Counters → Running → Course
course c t = record { counters = c; running = t }

-- the same with another lot open, or none
abbrev pub reopened : Option ℕ → Counters → Counters
reopened lot c = record { current = lot; lots = c.lots; gathered = c.gathered }

-- with one more lot that was accepted, and none open
abbrev pub one_more_lot : Lot → Counters → Counters
one_more_lot l c = record { current = None; lots = suc c.lots; gathered = gather c.gathered l.gathered }

-- what a message does to its direction, by whether its reply is 00
unfoldable pub advance : Effect → (accepted : Bool) → Course → Course
-- a header opens its lot
advance (Effect.Header number) true k = record { counters = reopened (Some number) k.counters; running = empty }
-- a detail adds its documents
advance (Effect.Detail more) true k = record { counters = k.counters; running = gather k.running more }
-- a lot total counts the lot, or ends it as not transmitted
advance (Effect.LotTotal lot) true k = record { counters = one_more_lot lot k.counters; running = empty }
advance (Effect.LotTotal lot) false k = record { counters = reopened None k.counters; running = empty }
-- nothing else moves
advance (Effect.Header number) false k = k
advance (Effect.Detail more) false k = k
advance Effect.SessionTotal accepted k = k
advance Effect.Nothing accepted k = k

-- an accepted session total ends the direction
abbrev pub ends : Effect → (accepted : Bool) → Bool
ends Effect.SessionTotal accepted = accepted
ends Effect.Nothing accepted = false
ends (Effect.Header number) accepted = false
ends (Effect.Detail more) accepted = false
ends (Effect.LotTotal lot) accepted = false

-- a receiver also keeps each lot that it accepted, in the next free place
unfoldable pub kept : Effect → (accepted : Bool) → (lots : ℕ) → List Lot → List Lot
kept (Effect.LotTotal lot) true lots places = set places lots lot
kept (Effect.LotTotal lot) false lots places = places
kept Effect.Nothing accepted lots places = places
kept (Effect.Header number) accepted lots places = places
kept (Effect.Detail more) accepted lots places = places
kept Effect.SessionTotal accepted lots places = places
