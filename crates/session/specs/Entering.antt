-- 01, 'Both ends together': when a message is entered into the ledgers of a direction, at its presenter and at its receiver. All that decides it are
-- arguments of calls, refusals and reply codes, never a session.
use Rattle.std.specs.Prelude.{ℕ, Bool, true, false, ◌&&◌, cond, List, [], ◌∷◌, eqb, Option, Some, None}
use Rattle.packed.specs.Every.{member}
use Rattle.message.specs.Envelope.{serial_of, body_of}
use Rattle.session.specs.declared.report.Awaited.{Awaited}
use Rattle.session.specs.Reply.{is_accepted}
use Rattle.session.specs.Ledger.{LedgerLot, Ledger, Entry, blank, enter, enter_read, sent_entry, body_entry, lot_sum}
use Rattle.session.specs.Engine.{Call}
use Rattle.session.specs.Ends.{End, Event}

-- a message whose reply is still to come: as the ledger will see it, and as its send wrote it
pub record Waiting : Type 0 where
  pub entry : Entry
  pub message : List ℕ

-- at the presenter: the ledger, and what waits
pub record PresenterLedger : Type 0 where
  pub ledger : Ledger
  pub waiting : Option Waiting

-- before any call
abbrev pub unpresented : PresenterLedger
unpresented = record { ledger = blank; waiting = None }

-- an unrefused send waits
abbrev pub waiting_for : Entry → (written : List ℕ) → PresenterLedger → PresenterLedger
waiting_for e written b = record { ledger = b.ledger; waiting = Some (record { entry = e; message = written }) }

-- what waits is entered, with the code read
abbrev pub enter_waiting : (accepted : Bool) → Option Waiting → Ledger → Ledger
enter_waiting accepted None b = b
enter_waiting accepted (Some m) b = enter m.entry accepted b

-- and waits no longer
abbrev pub answered_with : (accepted : Bool) → PresenterLedger → PresenterLedger
answered_with accepted b = record { ledger = enter_waiting accepted b.waiting b.ledger; waiting = None }

-- what an unrefused call does there; what it wrote waits, and enters no ledger
abbrev pub presenter_enters : Call → (written : List ℕ) → PresenterLedger → PresenterLedger
presenter_enters (Call.send time x) written b = waiting_for (sent_entry x) written b
presenter_enters (Call.reply time bytes) written b = answered_with (is_accepted bytes) b
presenter_enters (Call.receive time bytes) written b = b
presenter_enters (Call.clock time) written b = b
presenter_enters Call.report written b = b

-- at the receiver: the ledger, and the serials that were received
pub record ReceiverLedger : Type 0 where
  pub ledger : Ledger
  pub serials : List ℕ

-- a message is entered when its serial is first received, with the code replied
abbrev pub first_received : (serial : ℕ) → Option Entry → (accepted : Bool) → ReceiverLedger → ReceiverLedger
first_received serial e accepted b = cond (member serial b.serials) b (record { ledger = enter_read e accepted b.ledger; serials = serial ∷ b.serials })

-- what an unrefused call does there; of what it wrote the code is entered
abbrev pub receiver_enters : Call → (written : List ℕ) → ReceiverLedger → ReceiverLedger
receiver_enters (Call.receive time bytes) written b = first_received (serial_of bytes) (body_entry (body_of bytes)) (is_accepted written) b
receiver_enters (Call.send time x) written b = b
receiver_enters (Call.reply time bytes) written b = b
receiver_enters (Call.clock time) written b = b
receiver_enters Call.report written b = b

-- whether two ends are one
abbrev pub same_end : End → End → Bool
same_end End.near End.near = true
same_end End.far End.far = true
same_end End.near End.far = false
same_end End.far End.near = false

-- a call enters the ledgers of its own end alone, and none if it was refused
abbrev pub is_entered : End → Event → Bool
is_entered x e = same_end e.at x && eqb e.said.number 0

-- the presenter's ledger at an end, over all calls
unfoldable pub presenter_ledger_at : End → List Event → PresenterLedger
presenter_ledger_at x [] = unpresented
presenter_ledger_at x (e ∷ earlier) = cond (is_entered x e) (presenter_enters e.call e.said.bytes (presenter_ledger_at x earlier)) (presenter_ledger_at x earlier)

-- and the receiver's
unfoldable pub receiver_ledger_at : End → List Event → ReceiverLedger
receiver_ledger_at x [] = record { ledger = blank; serials = [] }
receiver_ledger_at x (e ∷ earlier) = cond (is_entered x e) (receiver_enters e.call e.said.bytes (receiver_ledger_at x earlier)) (receiver_ledger_at x earlier)

-- the open lot as a report names it
abbrev pub named_lot : Option LedgerLot → Awaited
named_lot None = Awaited.Neither
named_lot (Some l) = Awaited.LotTotal (lot_sum l)

-- by what waits: a lot total the open lot, a session total itself
abbrev pub named_by : Entry → Option LedgerLot → Awaited
named_by Entry.lot_total current = named_lot current
named_by Entry.session_total current = Awaited.SessionTotal
named_by (Entry.header number) current = Awaited.Neither
named_by (Entry.detail ds) current = Awaited.Neither

abbrev pub awaited_by : Option Waiting → Option LedgerLot → Awaited
awaited_by None current = Awaited.Neither
awaited_by (Some m) current = named_by m.entry current

-- what a report has to name
abbrev pub to_be_named : PresenterLedger → Awaited
to_be_named b = awaited_by b.waiting b.ledger.current
