-- What a presenter sends reads at the other end as the entry that it waits with, keys and all.
use mathlib.Core.Path.{◌≡◌, refl, ap, ◌∙◌}
use mathlib.Core.Bool.{true}
use mathlib.Core.List.{List}
use Prim.Native.Nat.{ℕ, ◌<◌}
use native.Mathlib.Omega.{arith}
use lib.ListN.{length}
use Rattle.std.specs.Prelude.{Option, Some, None}
use Rattle.packed.specs.Writing.{packed_byte}
use Rattle.detail.specs.Codes.{part_sendable}
use Rattle.detail.specs.Writing.{written_detail}
use Rattle.detail.proofs.Laws.Codes.{sendable_part}
use Rattle.detail.proofs.Laws.Writing.{documents_written, operation_written}
use Rattle.detail.proofs.Laws.RoundTrip.{operation_byte_lem}
use Rattle.message.specs.declared.route.Route.{Route}
use Rattle.message.specs.declared.content.Content.{Content}
use Rattle.message.specs.declared.header.Header.{Header}
use Rattle.message.specs.declared.total.Total.{Total}
use Rattle.message.specs.Content.{by_operation}
use Rattle.codes.specs.Field.{table_takes}
use Rattle.message.specs.Header.{header_fields, header_values, header_of}
use Rattle.message.specs.Line.{Body, body_bytes}
use Rattle.message.proofs.Laws.Content.{detail_told}
use Rattle.message.proofs.Laws.Header.{header_told}
use Rattle.message.proofs.Laws.Line.{content_told}
use Rattle.session.specs.declared.counters.Counters.{Counters}
use Rattle.session.specs.declared.counters.Lot.{Lot}
use Rattle.session.specs.declared.counters.Course.{Course}
use Rattle.session.specs.declared.running.Running.{Running}
use Rattle.session.specs.Sending.{open_number, ending_lot, Send}
use Rattle.session.specs.Ledger.{LedgerLot, Ledger, Entry, received_entry, body_entry, sent_entry, of_operation}
use Rattle.session.proofs.Laws.Ledger.{summary, open_of, running_of, lot_of}

header_read : (route : Route) (h : Header) → table_takes (header_fields route) (header_values route h) ≡ true → header_of (body_bytes route (Body.opening h)) ≡ h
unfolding body_bytes
header_read route h e = header_told route h e

pub header_entry : (route : Route) (h : Header) → table_takes (header_fields route) (header_values route h) ≡ true → body_entry (body_bytes route (Body.opening h)) ≡ Some (Entry.header h.number)
unfolding received_entry
header_entry route h fits = ap (λ (c : Content). received_entry c (body_bytes route (Body.opening h))) (content_told route (Body.opening h)) ∙ ap (λ (x : Header). Some (Entry.header x.number)) (header_read route h fits)

pub detail_entry : (operation : ℕ) (part : List ℕ) → part_sendable operation part ≡ true → body_entry (written_detail (packed_byte operation) part) ≡ Some (sent_entry (Send.detail operation part))
unfolding received_entry
detail_entry operation part s =
    let fit = sendable_part operation part s in
    let o = packed_byte operation in
    let body = written_detail o part in
    let some_bytes : 0 < length part = omega (arith, fit.least) in
    let op = operation_written o part some_bytes in
    ap (λ (c : Content). received_entry c body) (ap by_operation op ∙ detail_told o (operation_byte_lem operation fit.kind))
    ∙ λ i. Some (Entry.detail (of_operation (op i) (documents_written o part i)))

pub lot_total_entry : (route : Route) (t : Total) → body_entry (body_bytes route (Body.lot_ending t)) ≡ Some Entry.lot_total
unfolding received_entry
lot_total_entry route t = ap (λ (c : Content). received_entry c (body_bytes route (Body.lot_ending t))) (content_told route (Body.lot_ending t))

pub session_total_entry : (route : Route) (t : Total) → body_entry (body_bytes route (Body.session_ending t)) ≡ Some Entry.session_total
unfolding received_entry
session_total_entry route t = ap (λ (c : Content). received_entry c (body_bytes route (Body.session_ending t))) (content_told route (Body.session_ending t))

-- the lot that the presenter's counters name is the open one of its book
pub open_lot_same : (c : Counters) (t : Running) (b : Ledger) → ◌≡◌ {A = Course} (record { counters = c; running = t }) (summary b) → ending_lot c t ≡ lot_of b.current
open_lot_same c t b course = ap (λ (k : Course). ending_lot k.counters k.running) course ∙ go b.current
  where
    go : (o : Option LedgerLot) → ◌≡◌ {A = Lot} (record { number = open_number (open_of o); gathered = running_of o }) (lot_of o)
    go None = refl
    go (Some l) = refl
