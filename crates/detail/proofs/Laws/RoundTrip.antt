-- Both round trips of a detail, over its groups.
use mathlib.Core.Path.{◌≡◌, refl, ap, sym, ◌∙◌}
use mathlib.Core.Bool.{Bool, true, false, not, ◌&&◌, ◌||◌, and-eq-true_iff}
use mathlib.Core.List.{List, [], ◌∷◌, ◌++◌, map, flat_map}
use Prim.Native.Nat.{ℕ, ◌/◌, ◌≤◌, ◌<◌}
use native.Mathlib.Omega.{arith}
use lib.Dec.{eqb, lit<}
use lib.ListN.{length, drop, length-drop}
use borrow.Author.Tests.{eqb-true}
use Rattle.packed.specs.Every.{every}
use Rattle.packed.specs.Pieces.{pieces}
use Rattle.packed.specs.Writing.{packed_byte}
use Rattle.packed.proofs.Laws.Every.{every_both}
use Rattle.packed.proofs.Laws.FlatMap.{flat_map_map, flat_flat, flat_same}
use Rattle.packed.proofs.Laws.Pieces.{pieces_flat, pieces_made}
use Rattle.codes.specs.Chain.{◌when◌, ◌orelse◌}
use Rattle.codes.proofs.Laws.Chain.{held, last}
use Rattle.codes.specs.Field.{between}
use Rattle.codes.specs.Body.{operation_of, cleared}
use Rattle.document.specs.Operation.{is_operation, presented_number, returned_number}
use Rattle.document.specs.Limits.{document_bytes}
use Rattle.document.specs.Fields.{fields_good, amounts_good}
use Rattle.document.specs.Drawee.{drawee_served}
use Rattle.document.specs.Amounts.{for_something}
use Rattle.detail.specs.Limits.{head_bytes, most_groups, fill_bytes, group_bytes}
use Rattle.detail.specs.Groups.{groups, group_good, shape_good, one_operation, group_documents, documents}
use Rattle.detail.specs.Codes.{receiver_code, part_sendable}
use Rattle.detail.specs.Inner.Verdict.{judged}
use Rattle.detail.specs.Writing.{written_group, written_detail}
use Rattle.detail.specs.RoundTrip.{part_of, cleared_groups, WrittenThenRead, WrittenThenAccepted, ReadThenWritten}
use Rattle.detail.proofs.Laws.Groups.{Good, good}
use Rattle.detail.proofs.Laws.Codes.{sendable_part, accepted_part, shaped_judged}
use Rattle.detail.proofs.Laws.Writing.{documents_written, operation_written, one_written, shape_written}

-- the byte of operation 30 or 40 is one of the two of a group
pub operation_byte_lem : (operation : ℕ) → eqb operation presented_number || eqb operation returned_number ≡ true → is_operation (packed_byte operation) ≡ true
unfolding packed_byte
operation_byte_lem operation e = go (eqb operation presented_number) refl e
  where
    go : (t : Bool) → eqb operation presented_number ≡ t → t || eqb operation returned_number ≡ true → is_operation (packed_byte operation) ≡ true
    go true h e = rw (eqb-true operation presented_number h)
    go false h e = rw (eqb-true operation returned_number e)

-- a part that may be sent is judged by its receiver on the very documents of the part
pub written_then_read : (own operation : ℕ) (represented part : List ℕ) → part_sendable operation part ≡ true → receiver_code own represented (written_detail (packed_byte operation) part) ≡ judged (every (fields_good (packed_byte operation) own) (pieces document_bytes part)) (every (amounts_good (packed_byte operation) own) (pieces document_bytes part)) (every (drawee_served (packed_byte operation) own represented) (pieces document_bytes part)) (every for_something (pieces document_bytes part))
written_then_read own operation represented part e =
    let fit = sendable_part operation part e in
    let o = packed_byte operation in
    let some : 0 < length part = omega arith in
    shaped_judged own represented (written_detail o part) (shape_written o part (operation_byte_lem operation fit.kind) some (omega arith) fit.whole) (one_written o part some)
    ∙ λ i. judged (every (fields_good (operation_written o part some i) own) (documents_written o part i)) (every (amounts_good (operation_written o part some i) own) (documents_written o part i)) (every (drawee_served (operation_written o part some i) own represented) (documents_written o part i)) (every for_something (documents_written o part i))

pub fields_again : WrittenThenRead
fields_again operation part e =
    let some : 0 < length part = let fit = sendable_part operation part e in omega arith in
    (operation_written (packed_byte operation) part some, documents_written (packed_byte operation) part)

-- so what its presenter lets pass earns 06 or nothing
pub accepted_there : WrittenThenAccepted
unfolding ◌when◌ ◌orelse◌
accepted_there operation partner part represented e =
    let told = accepted_part operation partner part e in
    let served = every (drawee_served (packed_byte operation) partner represented) (pieces document_bytes part) in
    written_then_read partner operation represented part told.0 ∙ (λ i. judged (told.1 i) (told.2 i) served (told.3 i)) ∙ last (6 when not served)

-- the part of a body is its groups without their heads
heads_dropped : (gs : List (List ℕ)) → flat_map (λ (d : List ℕ). d) (flat_map group_documents gs) ≡ flat_map (drop head_bytes) gs
unfolding flat_map
heads_dropped gs = flat_flat (λ (d : List ℕ). d) group_documents gs ∙ all gs
  where
    all : (gs : List (List ℕ)) → flat_map (λ (g : List ℕ). flat_map (λ (d : List ℕ). d) (group_documents g)) gs ≡ flat_map (drop head_bytes) gs
    all [] = refl
    all (g ∷ gs) = λ i. pieces_flat document_bytes (lit< tt) (drop head_bytes g) i ++ all gs i

-- and is cut into the same pieces again
cut_again : (body : List ℕ) → every group_good (pieces group_bytes body) ≡ true → pieces fill_bytes (flat_map (drop head_bytes) (pieces group_bytes body)) ≡ map (drop head_bytes) (pieces group_bytes body)
cut_again body e =
    pieces_made group_bytes fill_bytes (lit< tt) (lit< tt) (drop head_bytes) group_good
    (λ (g : List ℕ) (e : group_good g ≡ true) (h : length g ≡ group_bytes). simp length-drop (omega arith))
    (λ (g : List ℕ) (e : group_good g ≡ true) (h : length g ≤ group_bytes). let known = good g e in (simp length-drop (omega arith), simp length-drop (omega arith)))
    body
    e

-- a good group, written again, is itself with a free byte of 00
again : (operation : ℕ) (g : List ℕ) → Good g → operation_of g ≡ operation → written_group operation (drop head_bytes g) ≡ cleared g
again operation [] h e = absurd (omega arith)
again operation (x ∷ []) h e = absurd (omega arith)
again operation (x ∷ a ∷ []) h e = absurd (omega arith)
again operation (x ∷ a ∷ b ∷ []) h e = absurd (omega arith)
again operation (x ∷ a ∷ b ∷ n ∷ ds) h e =
    let count : length ds / document_bytes ≡ n = omega arith in
    λ i. 0x00 ∷ sym h.marked i ∷ sym e i ∷ count i ∷ ds

pub read_then_written : (body : List ℕ) → shape_good body ≡ true → one_operation body ≡ true → written_detail (operation_of body) (part_of body) ≡ cleared_groups body
unfolding shape_good groups one_operation documents written_detail part_of cleared_groups
read_then_written body shape one =
    let gs = groups body in
    let operation = operation_of body in
    let same : List ℕ → Bool = λ (g : List ℕ). eqb (operation_of g) operation in
    let all = ((and-eq-true_iff (between 1 most_groups (length gs)) (every group_good gs)).0 shape).1 in
    ap (λ (p : List ℕ). flat_map (written_group operation) (pieces fill_bytes p)) (heads_dropped gs)
    ∙ ap (flat_map (written_group operation)) (cut_again body all)
    ∙ flat_map_map (written_group operation) (drop head_bytes) gs
    ∙ flat_same (λ (g : List ℕ). group_good g && same g) (λ (g : List ℕ). written_group operation (drop head_bytes g)) cleared (λ (g : List ℕ) (e : group_good g && same g ≡ true). kept g e) gs (every_both group_good same gs ∙ (λ i. all i && one i))
  where
    kept : (g : List ℕ) → group_good g && eqb (operation_of g) (operation_of body) ≡ true → written_group (operation_of body) (drop head_bytes g) ≡ cleared g
    kept g e =
        let both = (and-eq-true_iff (group_good g) (eqb (operation_of g) (operation_of body))).0 e in
        again (operation_of body) g (good g both.0) (eqb-true (operation_of g) (operation_of body) both.1)

-- so for every body that its receiver accepts
pub accepted_again : ReadThenWritten
unfolding receiver_code
accepted_again own represented body e =
    let shape = held 1 (shape_good body) _ (lit< tt) e in
    read_then_written body shape.0 (held 9 (one_operation body) _ (lit< tt) shape.1).0
