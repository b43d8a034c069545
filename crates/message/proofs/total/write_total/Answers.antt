-- `write_total`: head and runs, one behind the other.
use mathlib.Core.Path.{◌≡◌, refl, ap, sym, ◌∙◌}
use mathlib.Core.List.{List, ◌∷◌, ◌++◌, append_assoc, append-nil}
use Prim.Native.Nat.{ℕ, ◌+◌}
use native.Mathlib.Omega.{arith}
use lib.ListN.{length, length-append}
use lib.Seq.{sets}
use Rattle.packed.specs.Writing.{packed_bytes}
use Rattle.packed.proofs.Laws.Writing.{packed_length, sets_behind}
use Rattle.codes.specs.Body.{free, mark}
use Rattle.codes.specs.Field.{table_written}
use Rattle.message.specs.Inner.Widths.{total_fields}
use Rattle.message.proofs.total.write_total.Goals as goal

pub returns : goal.returns
unfolding packed_bytes table_written total_fields
returns c =
    let out = c.args.out.now in
    let w = c.args.w in
    let counted = free ∷ mark ∷ w.operation ∷ packed_bytes 2 c.args.t.number in
    let documents = packed_bytes w.documents c.args.t.stated.documents.0 in
    let nominal = packed_bytes w.nominal c.args.t.stated.nominal.0 in
    let commission = packed_bytes w.commission c.args.t.stated.commission.0 in
    let two-long : 0 + length (counted ++ documents) ≡ 5 + w.documents = omega (arith, packed_length w.documents c.args.t.stated.documents.0) in
    let three-long : 0 + length (counted ++ documents ++ nominal) ≡ 5 + w.documents + w.nominal = omega (arith, length-append (counted ++ documents) nominal, two-long, packed_length w.nominal c.args.t.stated.nominal.0) in
    let one = c.put.ensures ∙ ap (λ (d : List ℕ). sets d 3 (packed_bytes 2 c.args.t.number)) c.write_head.ensures in
    let two = c.put-2.ensures ∙ sets_behind counted documents out c.put.new.d 0 5 one refl in
    let three = c.put-3.ensures ∙ sets_behind (counted ++ documents) nominal out c.put-2.new.d 0 (5 + w.documents) two two-long in
    c.put-4.ensures
    ∙ sets_behind (counted ++ documents ++ nominal) commission out c.put-3.new.d 0 (5 + w.documents + w.nominal) three three-long
    ∙ ap (sets out 0) (append_assoc (counted ++ documents) nominal commission ∙ append_assoc counted documents (nominal ++ commission) ∙ ap (λ (l : List ℕ). counted ++ (documents ++ (nominal ++ l))) (sym (append-nil commission)))
