-- What the codes let pass: a message that no code stops may be accepted, at either end, and the direction stays within its limits.
use mathlib.Core.Path.{◌≡◌, refl, ap}
use mathlib.Core.Bool.{true, false≢true}
use mathlib.Core.List.{List}
use Prim.Native.Nat.{ℕ, ◌+◌, ◌≤◌}
use native.Mathlib.Omega.{arith}
use lib.Dec.{leb, lit<}
use lib.ListN.{length}
use borrow.Author.Tests.{leb-true, leb-false, ltb-false, eqb-true}
use Rattle.std.specs.Prelude.{Option, Some, None}
use Rattle.packed.specs.Every.{every}
use Rattle.packed.specs.Pieces.{pieces}
use Rattle.packed.specs.Writing.{packed_byte}
use Rattle.packed.proofs.Laws.Told.{both, three}
use Rattle.codes.specs.Body.{operation_of}
use Rattle.codes.proofs.Laws.Chain.{none_test, none_both, passed, held}
use Rattle.document.specs.Limits.{document_bytes}
use Rattle.document.specs.Fields.{amounts_good}
use Rattle.document.proofs.Laws.Amounts.{totals_below}
use Rattle.detail.specs.Codes.{receiver_code, presenter_code}
use Rattle.detail.specs.Groups.{documents}
use Rattle.detail.proofs.Laws.Codes.{accepted_part, accepted_amounts}
use Rattle.message.specs.declared.content.Content.{Content}
use Rattle.message.specs.Limits.{largest_order_number, largest_centre}
use Rattle.message.specs.Layout.{body_code}
use Rattle.message.specs.Header.{time_of_day, order_number, header, header_of, header_sendable}
use Rattle.message.specs.Total.{lot_total, lot_total_fields, total_of}
use Rattle.message.proofs.Laws.Header.{order_told}
use Rattle.session.specs.declared.counters.Course.{Course}
use Rattle.session.specs.declared.effect.Effect.{Effect}
use Rattle.session.specs.declared.parties.Parties.{Parties}
use Rattle.session.specs.declared.session.Presenting.{Presenting}
use Rattle.session.specs.declared.session.Receiving.{Receiving}
use Rattle.session.specs.Limits.{most_lot_documents, most_lots, passes_lot, lots_used}
use Rattle.session.specs.Hours.{presenter_late, receiver_late}
use Rattle.session.specs.Parties.{receiving_route, represented_by}
use Rattle.session.specs.declared.running.Running.{Running}
use Rattle.session.specs.Running.{empty, gather, detail_adds, documents_in}
use Rattle.session.specs.Course.{course}
use Rattle.session.specs.Outcome.{Held}
use Rattle.session.specs.Sequence.{is_open, is_open_lot, header_sequence, lot_sequence, lot_total_sequence}
use Rattle.session.specs.Sending.{header_stop, detail_stop, lot_total_stop, part_adds, open_number, Send, send_stop, sent_effect}
use Rattle.session.specs.Receiving.{accepted_lots, number_used, header_code, detail_code, lot_total_code, received_code, received_effect}
use Rattle.session.specs.Premise.{Fits, PendingSound, PendingCarried}
use Rattle.session.proofs.Laws.Sequence.{open_told, this_told}

-- amounts of digits fit, and add
documents_fit : (operation receiving : ℕ) (ds : List (List ℕ)) → every (amounts_good operation receiving) ds ≡ true → Fits (length ds) (detail_adds operation ds)
documents_fit operation receiving ds e = let t = totals_below operation receiving ds e in record { documents = omega (arith, t.0); nominal = omega (arith, t.0, t.1); commission = omega (arith, t.0, t.2) }

pub fits_gather : (m n most : ℕ) (a b : Running) → documents_in a + documents_in b ≤ most → Fits m a → Fits n b → Fits most (gather a b)
fits_gather m n most a b h f g = record { documents = h; nominal = omega (arith, f.nominal, g.nominal); commission = omega (arith, f.commission, g.commission) }

pub fits_empty : (most : ℕ) → Fits most empty
fits_empty most = record { documents = omega arith; nominal = omega arith; commission = omega arith }

-- what may be accepted
pub record Allowed (effect : Effect) (k : Course) : Type 0 where
  pub sound : PendingSound effect k.counters
  pub carried : PendingCarried effect k.running

numbered_open : (lot : Option ℕ) → is_open lot ≡ true → lot ≡ Some (open_number lot)
numbered_open None e = absurd (false≢true e)
numbered_open (Some n) e = refl

this_open : (number : ℕ) (lot : Option ℕ) → is_open_lot number lot ≡ true → lot ≡ Some number
this_open number None e = absurd (false≢true e)
this_open number (Some n) e = ap Some (eqb-true n number e)

-- the presenter's codes let pass only what may be accepted; of a header without a word about running totals
pub header_sound : (time moment centre number : ℕ) (p : Presenting) → header_stop time moment centre number p ≡ 0 → PendingSound (Effect.Header number) p.counters
unfolding header_stop header_sendable
header_sound time moment centre number p e =
    let fields = held 1 (header_sendable moment centre number) _ (lit< tt) e in
    let place = none_both (header_sequence p.ended p.counters.current) _ fields.1 in
    let late = passed 10 (presenter_late time) _ (lit< tt) place.1 in
    let order = (three (time_of_day moment) (leb centre largest_centre) (order_number number) fields.0).2 in
    (leb-true number largest_order_number (both (leb 1 number) (leb number largest_order_number) order).1, leb-false most_lots p.counters.lots (none_test 11 (lots_used p.counters.lots) (lit< tt) late.1))

-- of every send
pub send_allowed : (time : ℕ) (x : Send) (h : Held) → Fits most_lot_documents h.running → send_stop x time h ≡ 0 → Allowed (sent_effect x h) (course h.session.presenting.counters h.running)
unfolding detail_stop lot_total_stop
send_allowed time (Send.header moment centre number) h fits e = record { sound = header_sound time moment centre number h.session.presenting e; carried = tt }
send_allowed time (Send.detail operation part) h fits e =
    let t = h.running in
    let p = h.session.presenting in
    let partner = h.session.parties.partner in
    let ds = pieces document_bytes part in
    let more = part_adds operation part in
    let own = none_both (presenter_code operation partner part) _ e in
    let place = none_both (lot_sequence p.ended p.counters.current) _ own.1 in
    let room = ltb-false most_lot_documents (documents_in t + documents_in more) (none_test 12 (passes_lot (documents_in t + documents_in more)) (lit< tt) place.1) in
    record {
      sound = open_told p.ended p.counters.current place.0;
      carried = fits_gather most_lot_documents (length ds) most_lot_documents t more room fits (documents_fit (packed_byte operation) partner ds (accepted_part operation partner part own.0).2);
    }
send_allowed time Send.lot_total h fits e = let p = h.session.presenting in record { sound = numbered_open p.counters.current (open_told p.ended p.counters.current e); carried = refl }
send_allowed time Send.session_total h fits e = record { sound = tt; carried = tt }

-- and so do the receiver's
module _ (time : ℕ) (body : List ℕ) (parties : Parties) (t : Running) (r : Receiving) (fits : Fits most_lot_documents t) where
  abbrev pub receiving_here : Course
  receiving_here = course r.counters t

  pub received_allowed : (c : Content) → received_code c time body parties t r ≡ 0 → Allowed (received_effect c body t) receiving_here
  unfolding received_code received_effect header_code detail_code lot_total_code
  received_allowed Content.Header e =
      let read = none_both (body_code (header (receiving_route parties)) body) _ e in
      let place = none_both (header_sequence r.ended r.counters.current) _ read.1 in
      let late = passed 10 (receiver_late time) _ (lit< tt) place.1 in
      let new = passed 4 (number_used (header_of body).number (accepted_lots r)) _ (lit< tt) late.1 in
      record {
        sound = (order_told (receiving_route parties) body read.0, leb-false most_lots r.counters.lots (none_test 11 (lots_used r.counters.lots) (lit< tt) new.1));
        carried = tt;
      }
  received_allowed Content.Detail e =
      let ds = documents body in
      let more = detail_adds (operation_of body) ds in
      let read = none_both (receiver_code parties.own (represented_by parties) body) _ e in
      let place = none_both (lot_sequence r.ended r.counters.current) _ read.1 in
      let room = ltb-false most_lot_documents (documents_in t + documents_in more) (none_test 12 (passes_lot (documents_in t + documents_in more)) (lit< tt) place.1) in
      record {
        sound = open_told r.ended r.counters.current place.0;
        carried = fits_gather most_lot_documents (length ds) most_lot_documents t more room fits (documents_fit (operation_of body) parties.own ds (accepted_amounts parties.own (represented_by parties) body read.0));
      }
  received_allowed Content.LotTotal e =
      let number = (total_of lot_total_fields body).number in
      let read = none_both (body_code lot_total body) _ e in
      let place = none_both (lot_total_sequence r.ended number r.counters.current t) _ read.1 in
      record { sound = this_open number r.counters.current (this_told r.ended number r.counters.current t place.0); carried = refl }
  received_allowed Content.SessionTotal e = record { sound = tt; carried = tt }
  received_allowed Content.Unknown e = record { sound = tt; carried = tt }
