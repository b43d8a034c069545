-- 01, 'Both ends together': a ledger, 01's book, how a message is entered, and the counts and sums over it. Each direction has one at each end.
use Rattle.std.specs.Prelude.{ℕ, ◌≡◌, Bool, true, false, List, [], ◌∷◌, ◌++◌, map, length, Option, Some, None}
use Rattle.packed.specs.Writing.{packed_byte}
use Rattle.codes.specs.Body.{operation_of}
use Rattle.packed.specs.Every.{member}
use Rattle.detail.specs.Groups.{documents}
use Rattle.message.specs.declared.content.Content.{Content}
use Rattle.message.specs.Content.{content_of}
use Rattle.message.specs.Header.{header_of}
use Rattle.session.specs.declared.counters.Lot.{Lot}
use Rattle.session.specs.declared.report.Tally.{Tally}
use Rattle.session.specs.declared.running.Running.{Running}
use Rattle.session.specs.Running.{empty, gather, detail_adds}
use Rattle.session.specs.Sending.{Send}
use Rattle.document.specs.Part.{documents_of}

-- a document to the byte, its key included, and its operation as the byte of its group
pub record Document : Type 0 where
  pub operation : ℕ
  pub bytes : List ℕ

-- a lot: its number, and its documents in order
pub record LedgerLot : Type 0 where
  pub number : ℕ
  pub documents : List Document

-- a list of lots, and an open one or none
pub record Ledger : Type 0 where
  pub lots : List LedgerLot
  pub current : Option LedgerLot

-- 'at first empty and none'
abbrev pub blank : Ledger
blank = record { lots = []; current = None }

-- a message as the ledger sees it
pub data Entry : Type 0 where
  header : (number : ℕ) → Entry
  detail : List Document → Entry
  lot_total : Entry
  session_total : Entry

-- the open lot with more documents
abbrev pub longer : List Document → Option LedgerLot → Option LedgerLot
longer ds None = None
longer ds (Some l) = Some (record { number = l.number; documents = l.documents ++ ds })

-- the list with the open lot at its end
abbrev pub moved : List LedgerLot → Option LedgerLot → List LedgerLot
moved lots None = lots
moved lots (Some l) = lots ++ l ∷ []

-- a message with the code that was replied, or read
unfoldable pub enter : Entry → (accepted : Bool) → Ledger → Ledger
-- on 00
enter (Entry.header number) true b = record { lots = b.lots; current = Some (record { number = number; documents = [] }) }
enter (Entry.detail ds) true b = record { lots = b.lots; current = longer ds b.current }
enter Entry.lot_total true b = record { lots = moved b.lots b.current; current = None }
-- on another code
enter Entry.lot_total false b = record { lots = b.lots; current = None }
-- else the ledger stays
enter (Entry.header number) false b = b
enter (Entry.detail ds) false b = b
enter Entry.session_total accepted b = b

-- the same of a body that was read: one that is no message enters nothing
abbrev pub enter_read : Option Entry → (accepted : Bool) → Ledger → Ledger
enter_read None accepted b = b
enter_read (Some e) accepted b = enter e accepted b

-- documents of one operation
abbrev pub of_operation : (operation : ℕ) → List (List ℕ) → List Document
of_operation operation ds = map (λ (d : List ℕ). record { operation = operation; bytes = d }) ds

-- what a send is entered as
abbrev pub sent_entry : Send → Entry
sent_entry (Send.header moment centre number) = Entry.header number
sent_entry (Send.detail operation part) = Entry.detail (of_operation (packed_byte operation) (documents_of part))
sent_entry Send.lot_total = Entry.lot_total
sent_entry Send.session_total = Entry.session_total

-- and what a received body is entered as, by its content
unfoldable pub received_entry : Content → (body : List ℕ) → Option Entry
received_entry Content.Header body = Some (Entry.header (header_of body).number)
received_entry Content.Detail body = Some (Entry.detail (of_operation (operation_of body) (documents body)))
received_entry Content.LotTotal body = Some Entry.lot_total
received_entry Content.SessionTotal body = Some Entry.session_total
received_entry Content.Unknown body = None

-- which its operation tells
abbrev pub body_entry : (body : List ℕ) → Option Entry
body_entry body = received_entry (content_of body) body

-- counts and sums over documents
unfoldable pub sum : List Document → Running
sum [] = empty
sum (d ∷ ds) = gather (detail_adds d.operation (d.bytes ∷ [])) (sum ds)

-- a lot as a report names it
abbrev pub lot_sum : LedgerLot → Lot
lot_sum l = record { number = l.number; gathered = sum l.documents }

-- over a list of lots
unfoldable pub lots_sum : List LedgerLot → Running
lots_sum [] = empty
lots_sum (l ∷ ls) = gather (sum l.documents) (lots_sum ls)

-- as a report's totals
abbrev pub tallied : List LedgerLot → Tally
tallied ls = record { lots = length ls; gathered = lots_sum ls }

-- the numbers of the lots
abbrev pub numbers : List LedgerLot → List ℕ
numbers ls = map (λ (l : LedgerLot). l.number) ls

-- no number stands twice
abbrev pub Distinct : List ℕ → Type 0
Distinct [] = Unit {0}
Distinct (n ∷ ns) = (member n ns ≡ false) × Distinct ns
