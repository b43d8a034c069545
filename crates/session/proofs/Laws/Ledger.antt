-- Laws of the ledger: sums over lists, and the counters that mirror it, message by message.
use mathlib.Core.Path.{◌≡◌, refl, ap, sym, ◌∙◌}
use mathlib.Core.Bool.{Bool, true, false, false≢true}
use mathlib.Core.List.{List, [], ◌∷◌, ◌++◌}
use Prim.Native.Nat.{ℕ, suc}
use native.Mathlib.Omega.{arith}
use lib.ListN.{length, length-append}
use Rattle.std.specs.Prelude.{Option, Some, None}
use Rattle.session.specs.declared.counters.Lot.{Lot}
use Rattle.session.specs.declared.counters.Course.{Course}
use Rattle.session.specs.declared.effect.Effect.{Effect}
use Rattle.session.specs.declared.running.Running.{Running}
use Rattle.session.specs.Running.{empty, gather, detail_adds}
use Rattle.session.specs.Course.{advance}
use Rattle.session.specs.Sequence.{is_open}
use Rattle.session.proofs.Laws.Running.{gather_empty, empty_gather, gather_assoc, adds_none, adds_one}
use Rattle.session.specs.Ledger.{Document, LedgerLot, Ledger, Entry, enter, of_operation, sum, lot_sum, lots_sum}

-- sums join where lists do
pub sum_append : (xs ys : List Document) → sum (xs ++ ys) ≡ gather (sum xs) (sum ys)
unfolding sum
sum_append [] ys = sym (empty_gather (sum ys))
sum_append (x ∷ xs) ys = ap (gather (detail_adds x.operation (x.bytes ∷ []))) (sum_append xs ys) ∙ sym (gather_assoc (detail_adds x.operation (x.bytes ∷ [])) (sum xs) (sum ys))

pub lots_last : (ls : List LedgerLot) (l : LedgerLot) → lots_sum (ls ++ l ∷ []) ≡ gather (lots_sum ls) (sum l.documents)
unfolding lots_sum
lots_last [] l = gather_empty (sum l.documents) ∙ sym (empty_gather (sum l.documents))
lots_last (x ∷ ls) l = ap (gather (sum x.documents)) (lots_last ls l) ∙ sym (gather_assoc (sum x.documents) (lots_sum ls) (sum l.documents))

pub one_longer : (ls : List LedgerLot) (l : LedgerLot) → length (ls ++ l ∷ []) ≡ suc (length ls)
one_longer ls l = length-append ls (l ∷ []) ∙ omega arith

-- a detail adds the sum of its documents
pub detail_sum : (operation : ℕ) (ds : List (List ℕ)) → sum (of_operation operation ds) ≡ detail_adds operation ds
unfolding sum
detail_sum operation [] = sym (adds_none operation)
detail_sum operation (d ∷ ds) = ap (gather (detail_adds operation (d ∷ []))) (detail_sum operation ds) ∙ sym (adds_one operation d ds)

-- the counters of a ledger
abbrev pub open_of : Option LedgerLot → Option ℕ
open_of None = None
open_of (Some l) = Some l.number

abbrev pub running_of : Option LedgerLot → Running
running_of None = empty
running_of (Some l) = sum l.documents

abbrev pub summary : Ledger → Course
summary b = record { counters = record { current = open_of b.current; lots = length b.lots; gathered = lots_sum b.lots }; running = running_of b.current }

-- the lot that a total of the presenter would end
abbrev pub lot_of : Option LedgerLot → Lot
lot_of None = record { number = 0; gathered = empty }
lot_of (Some l) = lot_sum l

-- what an entry does to the counters of a ledger
abbrev pub effect_of : Entry → Ledger → Effect
effect_of (Entry.header number) b = Effect.Header number
effect_of (Entry.detail ds) b = Effect.Detail (sum ds)
effect_of Entry.lot_total b = Effect.LotTotal (lot_of b.current)
effect_of Entry.session_total b = Effect.SessionTotal

-- an entry that is accepted into an open lot finds one
abbrev pub Finds : Entry → Option ℕ → Type 0
Finds (Entry.header number) lot = Unit {0}
Finds (Entry.detail ds) lot = is_open lot ≡ true
Finds Entry.lot_total lot = is_open lot ≡ true
Finds Entry.session_total lot = Unit {0}

-- counters move as the ledger does
pub mirrors : (e : Entry) (accepted : Bool) (b : Ledger) → (accepted ≡ true → Finds e (open_of b.current)) → advance (effect_of e b) accepted (summary b) ≡ summary (enter e accepted b)
unfolding advance enter sum
mirrors (Entry.header number) true b h = refl
mirrors (Entry.header number) false b h = refl
mirrors (Entry.detail ds) false b h = refl
mirrors (Entry.detail ds) true b h = go b.current (h refl)
  where
    go : (current : Option LedgerLot) → is_open (open_of current) ≡ true → advance (Effect.Detail (sum ds)) true (summary (record { lots = b.lots; current = current })) ≡ summary (enter (Entry.detail ds) true (record { lots = b.lots; current = current }))
    go None e = absurd (false≢true e)
    go (Some l) e = λ i. record { counters = (summary (record { lots = b.lots; current = Some l })).counters; running = sym (sum_append l.documents ds) i }
mirrors Entry.lot_total false b h = refl
mirrors Entry.lot_total true b h = go b.current (h refl)
  where
    go : (current : Option LedgerLot) → is_open (open_of current) ≡ true → advance (Effect.LotTotal (lot_of current)) true (summary (record { lots = b.lots; current = current })) ≡ summary (enter Entry.lot_total true (record { lots = b.lots; current = current }))
    go None e = absurd (false≢true e)
    go (Some l) e =
        λ i. record { counters = record { current = None; lots = sym (one_longer b.lots l) i; gathered = sym (lots_last b.lots l) i }; running = empty }
mirrors Entry.session_total accepted b h = refl
