-- Laws of the codes of a detail: what a part that may be sent is like, and where each chain ends.
use mathlib.Core.Path.{◌≡◌, ◌∙◌}
use mathlib.Core.Bool.{true, false, ◌&&◌, ◌||◌, and-eq-true_iff}
use mathlib.Core.List.{List}
use Prim.Native.Nat.{ℕ, ◌/◌, ◌%◌, ◌≤◌}
use lib.Dec.{eqb, leb, lit<}
use lib.ListN.{length}
use borrow.Author.Tests.{eqb-true, leb-true}
use Rattle.packed.specs.Every.{every}
use Rattle.packed.specs.Pieces.{pieces}
use Rattle.packed.specs.Writing.{packed_byte}
use Rattle.codes.specs.Chain.{◌when◌, ◌orelse◌}
use Rattle.codes.proofs.Laws.Chain.{fails, holds, held, all_held}
use Rattle.codes.specs.Field.{between}
use Rattle.codes.specs.Body.{operation_of}
use Rattle.document.specs.Limits.{document_bytes, most_detail_documents}
use Rattle.document.specs.Operation.{presented_number, returned_number}
use Rattle.document.specs.Fields.{fields_good, amounts_good}
use Rattle.document.specs.Drawee.{drawee_served}
use Rattle.document.specs.Amounts.{for_something}
use Rattle.detail.specs.Groups.{shape_good, one_operation, documents}
use Rattle.detail.specs.Codes.{receiver_code, presenter_code, part_sendable}
use Rattle.detail.specs.Inner.Verdict.{judged}

-- what is known of a part that may be sent
pub record Sendable (operation : ℕ) (part : List ℕ) : Type 0 where
  pub kind : eqb operation presented_number || eqb operation returned_number ≡ true
  pub whole : length part % document_bytes ≡ 0
  pub least : 1 ≤ length part / document_bytes
  pub most : length part / document_bytes ≤ most_detail_documents

pub sendable_part : (operation : ℕ) (part : List ℕ) → part_sendable operation part ≡ true → Sendable operation part
unfolding part_sendable
sendable_part operation part e =
    let kind = eqb operation presented_number || eqb operation returned_number in
    let whole = eqb (length part % document_bytes) 0 in
    let n = length part / document_bytes in
    let last = (and-eq-true_iff (kind && whole) (between 1 most_detail_documents n)).0 e in
    let first = (and-eq-true_iff kind whole).0 last.0 in
    let range = (and-eq-true_iff (leb 1 n) (leb n most_detail_documents)).0 last.1 in
    record {
      kind = first.0;
      whole = eqb-true (length part % document_bytes) 0 first.1;
      least = leb-true 1 n range.0;
      most = leb-true n most_detail_documents range.1;
    }

module _ (operation partner : ℕ) (part : List ℕ) where
  pub unsendable : part_sendable operation part ≡ false → presenter_code operation partner part ≡ 1
  unfolding presenter_code
  unsendable e = fails 1 (part_sendable operation part) _ (lit< tt) e

  pub sendable_judged : part_sendable operation part ≡ true → presenter_code operation partner part ≡ judged (every (fields_good (packed_byte operation) partner) (pieces document_bytes part)) (every (amounts_good (packed_byte operation) partner) (pieces document_bytes part)) true (every for_something (pieces document_bytes part))
  unfolding presenter_code ◌when◌ ◌orelse◌
  sendable_judged e = holds 1 (part_sendable operation part) _ e

  -- what no code tells: a part that may be sent, good fields, good amounts, and no document for nothing
  pub accepted_part : presenter_code operation partner part ≡ 0 → (part_sendable operation part ≡ true) × (every (fields_good (packed_byte operation) partner) (pieces document_bytes part) ≡ true) × (every (amounts_good (packed_byte operation) partner) (pieces document_bytes part) ≡ true) × (every for_something (pieces document_bytes part) ≡ true)
  unfolding presenter_code
  accepted_part e =
      let may = held 1 (part_sendable operation part) _ (lit< tt) e in
      let all = all_held 1 3 44 (every (fields_good (packed_byte operation) partner) (pieces document_bytes part)) (every (amounts_good (packed_byte operation) partner) (pieces document_bytes part)) (every for_something (pieces document_bytes part)) (lit< tt) (lit< tt) (lit< tt) may.1 in
      (may.0, all.0, all.1, all.2)

module _ (own : ℕ) (represented body : List ℕ) where
  pub misshapen : shape_good body ≡ false → receiver_code own represented body ≡ 1
  unfolding receiver_code
  misshapen e = fails 1 (shape_good body) _ (lit< tt) e

  pub mixed : shape_good body ≡ true → one_operation body ≡ false → receiver_code own represented body ≡ 9
  unfolding receiver_code
  mixed s e = holds 1 (shape_good body) _ s ∙ fails 9 (one_operation body) _ (lit< tt) e

  pub shaped_judged : shape_good body ≡ true → one_operation body ≡ true → receiver_code own represented body ≡ judged (every (fields_good (operation_of body) own) (documents body)) (every (amounts_good (operation_of body) own) (documents body)) (every (drawee_served (operation_of body) own represented) (documents body)) (every for_something (documents body))
  unfolding receiver_code
  shaped_judged s e = holds 1 (shape_good body) _ s ∙ holds 9 (one_operation body) _ e

  pub accepted_amounts : receiver_code own represented body ≡ 0 → every (amounts_good (operation_of body) own) (documents body) ≡ true
  unfolding receiver_code
  accepted_amounts e =
      let shape = held 1 (shape_good body) _ (lit< tt) e in
      let one = held 9 (one_operation body) _ (lit< tt) shape.1 in
      let fields = held 1 (every (fields_good (operation_of body) own) (documents body)) _ (lit< tt) one.1 in
      (held 3 (every (amounts_good (operation_of body) own) (documents body)) _ (lit< tt) fields.1).0
