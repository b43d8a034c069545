-- The cursors of an end's two trays (01, 'Trays': the caller moves them).
use Rattle.std.specs.Prelude.{ℕ, ◌+◌, Bool, ◌&&◌, cond, List, eqb}
use Rattle.document.specs.Operation.{presented_number, returned_number}
use Rattle.outgoing.specs.Outgoing.{both_good, remain, next}
use Rattle.outgoing.specs.declared.Cursors.{Cursors}

-- nothing is sent yet
abbrev pub unmoved : Cursors
unmoved = record { presentations = 0; returns = 0 }

-- both trays have whole documents, and neither cursor is past its end
abbrev pub within : (presentations returns : List ℕ) → Cursors → Bool
within presentations returns c = both_good presentations returns c.presentations c.returns

-- the next part
abbrev pub part_at : (presentations returns : List ℕ) → Cursors → List ℕ
part_at presentations returns c = next presentations returns c.presentations c.returns

-- it is one of the presentations
abbrev pub presenting : (presentations : List ℕ) → Cursors → Bool
presenting presentations c = remain presentations c.presentations

abbrev pub next_operation : (presentations : List ℕ) → Cursors → ℕ
next_operation presentations c = cond (presenting presentations c) presented_number returned_number

-- the cursor of its tray is moved past so many documents
abbrev pub moved : (presentations : List ℕ) (documents : ℕ) → Cursors → Cursors
moved presentations documents c =
    cond (presenting presentations c)
    (record { presentations = c.presentations + documents; returns = c.returns })
    (record { presentations = c.presentations; returns = c.returns + documents })

abbrev pub same : Cursors → Cursors → Bool
same a b = eqb a.presentations b.presentations && eqb a.returns b.returns
