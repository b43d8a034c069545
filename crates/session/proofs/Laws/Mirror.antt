-- A message that was received moves the receiver's state as it moves its book, whatever the body and its code.
use mathlib.Core.Path.{◌≡◌, refl, ap, sym, subst, ◌∙◌}
use mathlib.Core.Bool.{Bool, true, false, false≢true}
use mathlib.Core.List.{List, [], ◌∷◌, ◌++◌, map}
use Prim.Native.Nat.{ℕ, ◌<◌}
use lib.Dec.{lit<}
use lib.ListN.{length}
use lib.Seq.{take-suc-set}
use Rattle.std.specs.Prelude.{Option, Some, None}
use Rattle.codes.specs.Body.{operation_of}
use Rattle.codes.proofs.Laws.Chain.{passed, none_both}
use Rattle.packed.specs.Every.{member}
use Rattle.detail.specs.Groups.{documents}
use Rattle.message.specs.declared.content.Content.{Content}
use Rattle.message.specs.Layout.{body_code}
use Rattle.message.specs.Header.{header, header_of}
use Rattle.message.specs.Total.{lot_total_fields, total_of}
use Rattle.session.specs.declared.counters.Lot.{Lot}
use Rattle.session.specs.declared.counters.Course.{Course}
use Rattle.session.specs.declared.effect.Effect.{Effect}
use Rattle.session.specs.declared.parties.Parties.{Parties}
use Rattle.session.specs.declared.session.Receiving.{Receiving}
use Rattle.session.specs.Hours.{receiver_late}
use Rattle.session.specs.Parties.{receiving_route}
use Rattle.session.specs.declared.running.Running.{Running}
use Rattle.session.specs.Course.{advance, kept}
use Rattle.session.specs.Sequence.{is_open, header_sequence}
use Rattle.session.specs.Sending.{open_number}
use Rattle.session.specs.Receiving.{accepted_lots, number_used, header_code, received_code, received_effect}
use Rattle.session.specs.Ledger.{Document, LedgerLot, Ledger, Entry, longer, moved, enter, enter_read, received_entry, of_operation, sum, lot_sum, numbers, Distinct}
use Rattle.session.proofs.Laws.Allowed.{Allowed}
use Rattle.session.proofs.Laws.Ledger.{summary, open_of, running_of, effect_of, lot_of, detail_sum, mirrors}
use Rattle.session.proofs.Laws.Lists.{distinct_last, numbers_last, sums_last, number_used_lem}
use Rattle.session.proofs.Laws.Joined.{NewNumber, Mirrored}

-- the lot that an accepted total ends is the open one of the book
record Ended (number : ℕ) (t : Running) (b : Ledger) : Type 0 where
  lot : LedgerLot
  current : b.current ≡ Some lot
  same : ◌≡◌ {A = Lot} (record { number = number; gathered = t }) (lot_sum lot)

module _ (r : Receiving) (t : Running) (b : Ledger) (m : Mirrored r t b) where
  abbrev pub course : Course
  course = record { counters = r.counters; running = t }

  open_same : r.counters.current ≡ open_of b.current
  open_same = ap (λ (k : Course). k.counters.current) m.course

  ended : (number : ℕ) → r.counters.current ≡ Some number → Ended number t b
  ended number e = go b.current refl
    where
      go : (o : Option LedgerLot) → b.current ≡ o → Ended number t b
      go None h = absurd (false≢true (ap is_open (sym (ap open_of h) ∙ sym open_same ∙ e)))
      go (Some l) h =
          let numbered : number ≡ l.number = ap open_number (sym e ∙ open_same ∙ ap open_of h) in
          let gathered : t ≡ sum l.documents = ap (λ (k : Course). k.running) m.course ∙ ap running_of h in
          record { lot = l; current = h; same = λ i. record { number = numbered i; gathered = gathered i } }

  longer_new : (ds : List Document) (o : Option LedgerLot) → NewNumber o b.lots → NewNumber (longer ds o) b.lots
  longer_new ds None n = tt
  longer_new ds (Some l) n = n

  closed_once : (o : Option LedgerLot) → NewNumber o b.lots → Distinct (numbers (moved b.lots o))
  closed_once None n = m.once
  closed_once (Some l) n = subst Distinct (sym (numbers_last b.lots l)) (distinct_last (numbers b.lots) l.number m.once n)

  module _ (body : List ℕ) where
    -- a header that is accepted has a number that no accepted lot has
    abbrev pub FreeHeader : Content → Type 0
    FreeHeader Content.Header = member (header_of body).number (numbers b.lots) ≡ false
    FreeHeader Content.Detail = Unit {0}
    FreeHeader Content.LotTotal = Unit {0}
    FreeHeader Content.SessionTotal = Unit {0}
    FreeHeader Content.Unknown = Unit {0}

    pub free_header : (time : ℕ) (p : Parties) (c : Content) → received_code c time body p t r ≡ 0 → FreeHeader c
    unfolding received_code header_code
    free_header time p Content.Header e =
        let read = none_both (body_code (header (receiving_route p)) body) _ e in
        let place = none_both (header_sequence r.ended r.counters.current) _ read.1 in
        let late = passed 10 (receiver_late time) _ (lit< tt) place.1 in
        let new = passed 4 (number_used (header_of body).number (accepted_lots r)) _ (lit< tt) late.1 in
        sym (ap (number_used (header_of body).number) m.kept ∙ number_used_lem (header_of body).number b.lots) ∙ new.0
    free_header time p Content.Detail e = tt
    free_header time p Content.LotTotal e = tt
    free_header time p Content.SessionTotal e = tt
    free_header time p Content.Unknown e = tt

    -- the counters
    pub course_mirrors : (c : Content) (accepted : Bool) → (accepted ≡ true → Allowed (received_effect c body t) course) → advance (received_effect c body t) accepted course ≡ summary (enter_read (received_entry c body) accepted b)
    unfolding received_effect received_entry advance enter
    course_mirrors Content.Header accepted a = let e = Entry.header (header_of body).number in ap (advance (effect_of e b) accepted) m.course ∙ mirrors e accepted b (λ (h : accepted ≡ true). tt)
    course_mirrors Content.Detail accepted a =
        let e = Entry.detail (of_operation (operation_of body) (documents body)) in
        (λ i. advance (Effect.Detail (sym (detail_sum (operation_of body) (documents body)) i)) accepted (m.course i))
        ∙ mirrors e accepted b (λ (h : accepted ≡ true). subst (λ (lot : Option ℕ). is_open lot ≡ true) open_same (a h).sound)
    course_mirrors Content.LotTotal true a =
        let last = ended (total_of lot_total_fields body).number (a refl).sound in
        (λ i. advance (Effect.LotTotal ((last.same ∙ sym (ap lot_of last.current)) i)) true (m.course i))
        ∙ mirrors Entry.lot_total true b (λ (h : true ≡ true). subst (λ (lot : Option ℕ). is_open lot ≡ true) (sym (ap open_of last.current)) refl)
    course_mirrors Content.LotTotal false a = ap (advance (Effect.LotTotal (lot_of b.current)) false) m.course
    course_mirrors Content.SessionTotal accepted a = m.course
    course_mirrors Content.Unknown accepted a = m.course

    -- the accepted lots
    abbrev pub kept_lots : (c : Content) (accepted : Bool) → List Lot
    kept_lots c accepted =
        let effect = received_effect c body t in
        accepted_lots (record { serial = r.serial; reply = r.reply; counters = (advance effect accepted course).counters; ended = r.ended; lots = kept effect accepted r.counters.lots r.lots })

    pub lots_mirror : (c : Content) (accepted : Bool) → (accepted ≡ true → Allowed (received_effect c body t) course) → (is_open r.counters.current ≡ true → r.counters.lots < length r.lots) → kept_lots c accepted ≡ map lot_sum (enter_read (received_entry c body) accepted b).lots
    unfolding received_effect received_entry advance enter kept
    lots_mirror Content.LotTotal true a room =
        let last = ended (total_of lot_total_fields body).number (a refl).sound in
        let place = room (subst (λ (lot : Option ℕ). is_open lot ≡ true) (sym (a refl).sound) refl) in
        take-suc-set r.lots r.counters.lots (record { number = (total_of lot_total_fields body).number; gathered = t }) place
        ∙ (λ i. m.kept i ++ last.same i ∷ [])
        ∙ sym (sums_last b.lots last.lot)
        ∙ ap (λ (o : Option LedgerLot). map lot_sum (moved b.lots o)) (sym last.current)
    lots_mirror Content.LotTotal false a room = m.kept
    lots_mirror Content.Header true a room = m.kept
    lots_mirror Content.Header false a room = m.kept
    lots_mirror Content.Detail true a room = m.kept
    lots_mirror Content.Detail false a room = m.kept
    lots_mirror Content.SessionTotal accepted a room = m.kept
    lots_mirror Content.Unknown accepted a room = m.kept

    -- no number stands twice, and the open lot's is new
    pub numbers_mirror : (c : Content) (accepted : Bool) → (accepted ≡ true → Allowed (received_effect c body t) course) → (accepted ≡ true → FreeHeader c) → Distinct (numbers (enter_read (received_entry c body) accepted b).lots) × NewNumber (enter_read (received_entry c body) accepted b).current (enter_read (received_entry c body) accepted b).lots
    unfolding received_effect received_entry enter
    numbers_mirror Content.Header true a free = (m.once, free refl)
    numbers_mirror Content.Header false a free = (m.once, m.new)
    numbers_mirror Content.Detail true a free = (m.once, longer_new (of_operation (operation_of body) (documents body)) b.current m.new)
    numbers_mirror Content.Detail false a free = (m.once, m.new)
    numbers_mirror Content.LotTotal true a free = (closed_once b.current m.new, tt)
    numbers_mirror Content.LotTotal false a free = (m.once, tt)
    numbers_mirror Content.SessionTotal accepted a free = (m.once, m.new)
    numbers_mirror Content.Unknown accepted a free = (m.once, m.new)
