-- The one premise of a call (01, 'Centres and directions'): the state and the running totals are those that a start and the calls since
-- have left. A start gives it and every call keeps it, both by contract. It says nothing that a partner could break.
use Rattle.std.specs.Prelude.{ℕ, ◌*◌, ◌≤◌, ◌<◌, ◌≡◌, true, length, Option, Some, None}
use Rattle.document.specs.Limits.{largest_entity, most_represented, largest_nominal, largest_commission}
use Rattle.message.specs.Limits.{largest_serial, largest_order_number}
use Rattle.session.specs.declared.counters.Counters.{Counters}
use Rattle.session.specs.declared.effect.Effect.{Effect}
use Rattle.session.specs.declared.parties.Parties.{Parties}
use Rattle.session.specs.declared.session.Session.{Session}
use Rattle.session.specs.Limits.{most_lot_documents, most_lots}
use Rattle.session.specs.Parties.{largest_date, Direction, opposite}
use Rattle.session.specs.declared.running.Running.{Running}
use Rattle.session.specs.Running.{gather, stated, documents_in}
use Rattle.session.specs.Sequence.{is_open}

-- running totals of at most so many documents, each amount within its digits
pub record Fits (most : ℕ) (r : Running) : Type 0 where
  pub documents : documents_in r ≤ most
  pub nominal : (stated r).nominal.0 ≤ documents_in r * largest_nominal
  pub commission : (stated r).commission.0 ≤ documents_in r * largest_commission

-- an open lot has an order number, and room among the accepted ones
abbrev pub OpenSound : Option ℕ → (lots : ℕ) → Type 0
OpenSound None lots = Unit {0}
OpenSound (Some n) lots = (n ≤ largest_order_number) × (lots < most_lots)

-- counters within the limits of a direction
pub record CountersSound (c : Counters) : Type 0 where
  pub lots : c.lots ≤ most_lots
  pub open_lot : OpenSound c.current c.lots
  pub gathered : Fits (c.lots * most_lot_documents) c.gathered

-- a pending header may open its lot; a pending detail or lot total has an open one
abbrev pub PendingSound : Effect → Counters → Type 0
PendingSound Effect.Nothing c = Unit {0}
PendingSound (Effect.Header n) c = (n ≤ largest_order_number) × (c.lots < most_lots)
PendingSound (Effect.Detail more) c = is_open c.current ≡ true
PendingSound (Effect.LotTotal lot) c = c.current ≡ Some lot.number
PendingSound Effect.SessionTotal c = Unit {0}

-- numbers within the limits of a start
pub record PartiesSound (p : Parties) : Type 0 where
  pub date : p.date ≤ largest_date
  pub own : p.own ≤ largest_entity
  pub partner : p.partner ≤ largest_entity
  pub represented : p.count ≤ most_represented

-- the first part: of a session
pub record Sound (s : Session) : Type 0 where
  pub parties : PartiesSound s.parties
  pub received : s.receiving.serial ≤ largest_serial
  pub presenting : CountersSound s.presenting.counters
  pub receiving : CountersSound s.receiving.counters
  pub pending : PendingSound s.presenting.pending s.presenting.counters
  -- the array's type says it of the code; here the places are a list
  pub places : length s.receiving.lots ≡ most_lots

-- the counters of a direction
abbrev pub counters_of : Direction → Session → Counters
counters_of Direction.presenting s = s.presenting.counters
counters_of Direction.receiving s = s.receiving.counters

-- and what awaits a reply in it: a receiver awaits none
abbrev pub pending_of : Direction → Session → Effect
pending_of Direction.presenting s = s.presenting.pending
pending_of Direction.receiving s = Effect.Nothing

-- a pending detail leaves the lot within its limit, and a pending lot total says what was gathered
abbrev pub PendingCarried : Effect → Running → Type 0
PendingCarried Effect.Nothing t = Unit {0}
PendingCarried (Effect.Header n) t = Unit {0}
PendingCarried (Effect.Detail more) t = Fits most_lot_documents (gather t more)
PendingCarried (Effect.LotTotal lot) t = lot.gathered ≡ t
PendingCarried Effect.SessionTotal t = Unit {0}

-- the second part: of the running totals that are lent for a direction
pub record Carried (d : Direction) (s : Session) (t : Running) : Type 0 where
  pub fits : Fits most_lot_documents t
  pub pending : PendingCarried (pending_of d s) t

-- A call keeps the premise. One that is lent no running totals leaves a sound session, and whatever is carried in a direction still is.
pub record Kept (before after : Session) : Type 0 where
  pub sound : Sound after
  pub carried : (d : Direction) (t : Running) → Carried d before t → Carried d after t

-- One that is lent those of its direction leaves it with running totals that are carried, and whatever is carried in the other still is.
pub record KeptBeside (d : Direction) (before after : Session) (t : Running) : Type 0 where
  pub sound : Sound after
  pub carried : Carried d after t
  pub other : (u : Running) → Carried (opposite d) before u → Carried (opposite d) after u
