-- `read_envelope`: a length that the kind has not is refused; else kind, digits and serial decide.
use mathlib.Core.Path.{◌≡◌, ap, sym, ◌∙◌}
use mathlib.Core.Bool.{Bool, true, false, not, ◌&&◌}
use mathlib.Core.List.{List, []}
use Prim.Native.Nat.{ℕ}
use lib.Dec.{eqb, lit<}
use lib.ListN.{length}
use Rattle.packed.specs.Part.{byte_at}
use Rattle.codes.specs.Chain.{◌when◌}
use Rattle.codes.specs.Field.{between, table_numbers}
use borrow.Author.Rules.{rules}
use Rattle.message.specs.Limits.{largest_serial}
use Rattle.message.specs.declared.envelope.Kind.{Kind}
use Rattle.message.specs.declared.envelope.Envelope.{Envelope}
use Rattle.message.specs.Reading.{reading}
use Rattle.message.specs.Envelope.{length_good, envelope_fields, envelope_values, envelope_good, read_envelope}
use Rattle.message.proofs.Laws.Reading.{said_values, said_number}
use Rattle.message.proofs.Laws.Envelope.{tests_decide}
use Rattle.message.proofs.envelope.read_envelope.Goals as goal

-- a test that fails is 21
refused : (kind : Kind) (bytes : List ℕ) → envelope_good kind bytes ≡ false → reading 21 [] ≡ read_envelope kind bytes
unfolding ◌when◌
refused kind bytes e = said_number (21 when not (envelope_good kind bytes)) 21 (table_numbers 1 envelope_fields bytes) (lit< tt) (ap (λ (b : Bool). 21 when not b) e)

pub returns-then-not-length_good : goal.returns-then-not-length_good
unfolding envelope_good
returns-then-not-length_good c =
    let short : length_good c.args.kind (length c.args.bytes.now) ≡ false = sym c.length_good.ensures ∙ c.if-not-length_good.true in
    refused c.args.kind c.args.bytes.now (rw short)

-- kind, digits and serial decide
pub returns-then-bytes-kind_byte : goal.returns-then-bytes-kind_byte
unfolding envelope_fields ◌when◌
returns-then-bytes-kind_byte c =
    let kind = c.args.kind in
    let bytes = c.args.bytes.now in
    let fields = c.fields_of-e in
    let past = sym c.length_good.ensures ∙ c.if-not-length_good.false in
    let some : c.contains.result ≡ between 1 largest_serial fields.result.serial = search rules in
    let tested = ap (λ (t : Bool). eqb (byte_at 1 bytes) c.kind_byte.result && c.are_digits.result && t) (sym some) in
    let good = tests_decide kind bytes c.kind_byte.result fields.result.serial c.are_digits.result true past c.kind_byte.ensures c.are_digits.ensures (ap (λ (x : Envelope). x.serial) fields.ensures) (tested ∙ c.if-bytes-kind_byte.true) in
    said_values (21 when not (envelope_good kind bytes)) (table_numbers 1 envelope_fields bytes) (envelope_values fields.result) (ap (λ (b : Bool). 21 when not b) good) (ap envelope_values fields.ensures)

pub returns-else-bytes-kind_byte : goal.returns-else-bytes-kind_byte
unfolding envelope_fields
returns-else-bytes-kind_byte c =
    let kind = c.args.kind in
    let bytes = c.args.bytes.now in
    let fields = c.fields_of-e in
    let past = sym c.length_good.ensures ∙ c.if-not-length_good.false in
    let some : c.contains.result ≡ between 1 largest_serial fields.result.serial = search rules in
    let tested = ap (λ (t : Bool). eqb (byte_at 1 bytes) c.kind_byte.result && c.are_digits.result && t) (sym some) in
    refused kind bytes (tests_decide kind bytes c.kind_byte.result fields.result.serial c.are_digits.result false past c.kind_byte.ensures c.are_digits.ensures (ap (λ (x : Envelope). x.serial) fields.ensures) (tested ∙ c.if-bytes-kind_byte.false))
