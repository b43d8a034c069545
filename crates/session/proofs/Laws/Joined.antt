-- How the two ends of a direction stand to each other: the invariant of the agreement. Each end's counters mirror its own book; the books are
-- equal, or the receiver's has what the presenter still waits for; and the line holds nothing that could surprise either.
use mathlib.Core.Path.{◌≡◌, ap, subst}
use mathlib.Core.Bool.{Bool, true, false, cond}
use mathlib.Core.List.{List, ◌∷◌, map}
use mathlib.Core.Logic.{◌⊎◌, inl, inr}
use Prim.Native.Nat.{ℕ, suc}
use native.Mathlib.Omega.{arith}
use lib.Dec.{eqb}
use borrow.Author.Tests.{ne_eqb}
use Rattle.std.specs.Prelude.{Option, Some, None}
use Rattle.packed.specs.Every.{member}
use Rattle.message.specs.declared.route.Route.{Route}
use Rattle.message.specs.declared.envelope.Kind.{Kind}
use Rattle.message.specs.declared.reply.ReplyOperation.{ReplyOperation}
use Rattle.message.specs.Envelope.{serial_of, envelope_good, envelope_of, body_of}
use Rattle.session.specs.declared.counters.Course.{Course}
use Rattle.session.specs.declared.effect.Effect.{Effect}
use Rattle.session.specs.declared.session.Presenting.{Presenting}
use Rattle.session.specs.declared.session.Receiving.{Receiving}
use Rattle.session.specs.declared.running.Running.{Running}
use Rattle.session.specs.Receiving.{accepted_lots}
use Rattle.session.specs.Ledger.{LedgerLot, Ledger, Entry, enter, body_entry, lot_sum, numbers, Distinct}
use Rattle.session.specs.Engine.{Call}
use Rattle.session.specs.Ends.{End, Event, WrittenBefore}
use Rattle.session.specs.Entering.{Waiting, PresenterLedger, ReceiverLedger}
use Rattle.session.proofs.Laws.Ledger.{summary, effect_of}
use Rattle.session.proofs.Laws.Foreign.{Foreign}
use Rattle.session.proofs.Laws.Line.{accepts, MessageFact, ReplyFact}
use Rattle.session.proofs.Laws.Lists.{up_to}

-- what waits, as the presenter's state has it
abbrev pub waiting_effect : Option Waiting → Ledger → Effect
waiting_effect None b = Effect.Nothing
waiting_effect (Some m) b = effect_of m.entry b

-- the operation of the reply to what waits
abbrev pub reply_for : Entry → ReplyOperation
reply_for (Entry.header number) = ReplyOperation.Other
reply_for (Entry.detail ds) = ReplyOperation.Other
reply_for Entry.lot_total = ReplyOperation.LotTotal
reply_for Entry.session_total = ReplyOperation.SessionTotal

-- the message that waits is on the line, and reads as its entry
pub record OnLine (route : Route) (serial : ℕ) (m : Waiting) (trace : List Event) : Type 0 where
  pub written : WrittenBefore m.message trace
  pub good : envelope_good Kind.Message m.message ≡ true
  pub way : (envelope_of m.message).route ≡ route
  pub numbered : serial_of m.message ≡ serial
  pub reads : body_entry (body_of m.message) ≡ Some m.entry

pub record PresenterSide (p : Presenting) (t : Running) (b : PresenterLedger) : Type 0 where
  pub course : ◌≡◌ {A = Course} (record { counters = p.counters; running = t }) (summary b.ledger)
  pub pending : p.pending ≡ waiting_effect b.waiting b.ledger
  pub once : Distinct (numbers b.ledger.lots)

-- the open lot's number is no accepted lot's
abbrev pub NewNumber : Option LedgerLot → List LedgerLot → Type 0
NewNumber None ls = Unit {0}
NewNumber (Some l) ls = member l.number (numbers ls) ≡ false

-- what the receiver's own book says of its state
pub record Mirrored (r : Receiving) (t : Running) (b : Ledger) : Type 0 where
  pub course : ◌≡◌ {A = Course} (record { counters = r.counters; running = t }) (summary b)
  pub kept : accepted_lots r ≡ map lot_sum b.lots
  pub once : Distinct (numbers b.lots)
  pub new : NewNumber b.current b.lots

-- the serials that were received end with the last
pub record Seen (last : ℕ) (serials : List ℕ) : Type 0 where
  pub earlier : up_to last serials ≡ true
  pub last_seen : (last ≡ 0) ⊎ (member last serials ≡ true)

-- nothing waits and the books are equal; or a message waits that was not received; or one that was, with the code that is kept
pub data Link (p : Presenting) (r : Receiving) (waiting : Option Waiting) (confirming counting : Ledger) : Type 0 where
  idle : waiting ≡ None → p.serial ≡ r.serial → confirming ≡ counting → Link p r waiting confirming counting
  sent : (m : Waiting) → waiting ≡ Some m → p.serial ≡ suc r.serial → confirming ≡ counting → Link p r waiting confirming counting
  taken : (m : Waiting) → waiting ≡ Some m → p.serial ≡ r.serial → counting ≡ enter m.entry (accepts r.reply.code) confirming → r.reply.operation ≡ reply_for m.entry → Link p r waiting confirming counting

-- the two ends of a direction: the record in the session, the running totals, and what was entered
pub record PresentingEnd : Type 0 where
  pub state : Presenting
  pub running : Running
  pub entered : PresenterLedger

pub record ReceivingEnd : Type 0 where
  pub state : Receiving
  pub running : Running
  pub entered : ReceiverLedger

abbrev pub presenting_end : Presenting → Running → PresenterLedger → PresentingEnd
presenting_end p t b = record { state = p; running = t; entered = b }

abbrev pub receiving_end : Receiving → Running → ReceiverLedger → ReceivingEnd
receiving_end r t b = record { state = r; running = t; entered = b }

-- a call at an end, with what it said
abbrev pub event_of : End → Call → (number : ℕ) (bytes : List ℕ) → Event
event_of x call number bytes = record { at = x; call = call; said = record { number = number; bytes = bytes } }

pub record Joined (route : Route) (p : PresentingEnd) (r : ReceivingEnd) (trace : List Event) : Type 0 where
  pub presenter : PresenterSide p.state p.running p.entered
  pub receiver : Mirrored r.state r.running r.entered.ledger
  pub seen : Seen r.state.serial r.entered.serials
  pub link : Link p.state r.state p.entered.waiting p.entered.ledger r.entered.ledger
  pub waits : (m : Waiting) → p.entered.waiting ≡ Some m → OnLine route p.state.serial m trace
  pub messages : (bytes : List ℕ) → WrittenBefore bytes trace → MessageFact route p.state.serial p.entered.waiting bytes
  pub replies : (bytes : List ℕ) → WrittenBefore bytes trace → ReplyFact route r.state.serial r.state.reply.code bytes

module _ (route : Route) (p : PresentingEnd) (r : ReceivingEnd) (trace : List Event) (j : Joined route p r trace) where
  -- what waits is on the line after any call
  pub still : (x : Event) (m : Waiting) → p.entered.waiting ≡ Some m → OnLine route p.state.serial m (x ∷ trace)
  still x m w = let o = j.waits m w in record { written = inr o.written; good = o.good; way = o.way; numbered = o.numbered; reads = o.reads }

  -- a call that writes nothing of this direction
  pub passed_by : (e : Event) → (e.said.number ≡ 0 → Foreign route e.said.bytes) → Joined route p r (e ∷ trace)
  passed_by e foreign =
      record { presenter = j.presenter; receiver = j.receiver; seen = j.seen; link = j.link; waits = still e; messages = all_messages; replies = all_replies }
    where
      all_messages : (bytes : List ℕ) → WrittenBefore bytes (e ∷ trace) → MessageFact route p.state.serial p.entered.waiting bytes
      all_messages bytes (inl w) = subst (MessageFact route p.state.serial p.entered.waiting) w.1 (λ g way. absurd ((foreign w.0).no_message g way))
      all_messages bytes (inr w) = j.messages bytes w

      all_replies : (bytes : List ℕ) → WrittenBefore bytes (e ∷ trace) → ReplyFact route r.state.serial r.state.reply.code bytes
      all_replies bytes (inl w) = subst (ReplyFact route r.state.serial r.state.reply.code) w.1 (λ g way. absurd ((foreign w.0).no_reply g way))
      all_replies bytes (inr w) = j.replies bytes w

  -- a refused call
  pub refused_by : (e : Event) (k : ℕ) → e.said.number ≡ suc k → Joined route p r (e ∷ trace)
  refused_by e k n = passed_by e (λ (z : e.said.number ≡ 0). absurd (never n z))
    where
      never : {m l : ℕ} → m ≡ suc l → m ≡ 0 → ⊥
      never a b = omega arith

-- which enters no book
pub not_entered : {A : Type 0} (k : ℕ) (a b : A) → cond (eqb (suc k) 0) a b ≡ b
not_entered {A = A} k a b = ap (λ (t : Bool). cond t a b) (ne_eqb (suc k) 0 (λ (z : suc k ≡ 0). omega arith))
