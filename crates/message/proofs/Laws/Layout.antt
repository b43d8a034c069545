-- Laws of a body of a fixed length: which code each outcome of the tests earns, and the round trips.
use mathlib.Core.Path.{◌≡◌, refl, ap, sym, ◌∙◌}
use mathlib.Core.Bool.{Bool, true, false, ◌||◌}
use mathlib.Core.List.{List, [], ◌∷◌, append-nil}
use Prim.Native.Nat.{ℕ, ◌+◌, ◌-◌, ◌≤◌, ◌<◌}
use native.Mathlib.Omega.{arith}
use lib.Dec.{eqb, lit<}
use lib.ListN.{length, drop}
use borrow.Author.Tests.{eqb-true, eq-eqb}
use Rattle.packed.specs.Part.{byte_at, part}
use Rattle.packed.specs.Every.{every}
use Rattle.packed.proofs.Laws.Told.{three}
use Rattle.packed.proofs.Laws.Part.{part_tail}
use Rattle.codes.specs.Body.{free, mark, operation_of, cleared}
use Rattle.codes.specs.Chain.{◌when◌, ◌orelse◌}
use Rattle.codes.specs.Field.{Field, field_good, table_good, table_numbers, table_takes, table_written}
use Rattle.codes.proofs.Laws.Chain.{fails, holds, all_held}
use Rattle.codes.proofs.Laws.Table.{Adjoin, forward, written_length, written_then_read as table-written, read_then_written as table-read, rows_of, rows_all}
use Rattle.message.specs.Limits.{first_position}
use Rattle.message.specs.Reading.{reading}
use Rattle.message.specs.Layout.{Layout, fixed_shape, body_code, read_body, written_body}
use Rattle.message.proofs.Laws.Reading.{said_values, said_number, told}

-- what a good shape tells
pub record Shaped (bytes operation : ℕ) (body : List ℕ) : Type 0 where
  pub size : length body ≡ bytes
  pub marked : byte_at 2 body ≡ mark
  pub said : operation_of body ≡ operation

pub shaped : (bytes operation : ℕ) (body : List ℕ) → fixed_shape bytes operation body ≡ true → Shaped bytes operation body
unfolding fixed_shape
shaped bytes operation body e =
    let all = three (eqb (length body) bytes) (eqb (byte_at 2 body) mark) (eqb (operation_of body) operation) e in
    record { size = eqb-true (length body) bytes all.0; marked = eqb-true (byte_at 2 body) mark all.1; said = eqb-true (operation_of body) operation all.2 }

module _ (layout : Layout) (body : List ℕ) where
  abbrev shape : Bool
  shape = fixed_shape layout.bytes layout.operation body

  abbrev fields : Bool
  fields = table_good first_position 1 layout.fields body

  abbrev amounts : Bool
  amounts = table_good first_position 3 layout.fields body

  pub misshapen : shape ≡ false → body_code layout body ≡ 1
  unfolding body_code
  misshapen e = fails 1 shape _ (lit< tt) e

  pub field_wrong : shape ≡ true → fields ≡ false → body_code layout body ≡ 1
  unfolding body_code
  field_wrong s e = holds 1 shape _ s ∙ fails 1 fields _ (lit< tt) e

  pub amount_wrong : shape ≡ true → fields ≡ true → amounts ≡ false → body_code layout body ≡ 3
  unfolding body_code ◌when◌ ◌orelse◌
  amount_wrong s f e = rw (s, f, e)

  pub accepted : shape ≡ true → fields ≡ true → amounts ≡ true → body_code layout body ≡ 0
  unfolding body_code ◌when◌ ◌orelse◌
  accepted s f e = rw (s, f, e)

  pub accepted_told : body_code layout body ≡ 0 → (shape ≡ true) × (fields ≡ true) × (amounts ≡ true)
  unfolding body_code
  accepted_told = all_held 1 1 3 shape fields amounts (lit< tt) (lit< tt) (lit< tt)

  -- and so what the answer is
  pub said_code : (m : ℕ) → 0 < m → body_code layout body ≡ m → reading m [] ≡ read_body layout body
  said_code m h e = said_number (body_code layout body) m (table_numbers first_position layout.fields body) h e

  pub said_fields : (values : List ℕ) → body_code layout body ≡ 0 → values ≡ table_numbers first_position layout.fields body → reading 0 values ≡ read_body layout body
  said_fields values e h = said_values (body_code layout body) (table_numbers first_position layout.fields body) values e h

-- the position of a body's first field
abbrev first_field : ℕ
first_field = 4

-- a layout whose rows fill the body from its first field on, and whose faults earn 01 or 03
pub record Whole (layout : Layout) : Type 0 where
  pub covers : Adjoin first_field (layout.bytes + 1) layout.fields
  pub faults : every (λ (f : Field). eqb f.code 1 || eqb f.code 3) layout.fields ≡ true

behind_free : (body : List ℕ) → 3 ≤ length body → drop 1 body ≡ byte_at 2 body ∷ operation_of body ∷ drop 3 body
behind_free [] h = absurd (omega arith)
behind_free (x ∷ []) h = absurd (omega arith)
behind_free (x ∷ m ∷ []) h = absurd (omega arith)
behind_free (x ∷ m ∷ o ∷ rest) h = refl

module _ (layout : Layout) (whole : Whole layout) where
  pub length_written : (vs : List ℕ) → table_takes layout.fields vs ≡ true → length (written_body layout vs) ≡ layout.bytes
  length_written vs e =
      omega (arith, written_length first_field (layout.bytes + 1) layout.fields vs whole.covers e, forward first_field (layout.bytes + 1) layout.fields whole.covers)

  pub written_then_read : (vs : List ℕ) → table_takes layout.fields vs ≡ true → read_body layout (written_body layout vs) ≡ reading 0 vs
  unfolding fixed_shape
  written_then_read vs e =
      let body = written_body layout vs in
      let read = table-written first_position first_field (layout.bytes + 1) layout.fields vs [] body (omega arith) whole.covers e (sym (append-nil (table_written layout.fields vs))) in
      let shape : fixed_shape layout.bytes layout.operation body ≡ true = rw (eq-eqb (length body) layout.bytes (length_written vs e), eq-eqb layout.operation layout.operation refl) in
      let good : (code : ℕ) → table_good first_position code layout.fields body ≡ true = λ (code : ℕ). rows_of (field_good first_position body) code layout.fields read.1 in
      sym (said_fields layout body vs (accepted layout body shape (good 1) (good 3)) (sym read.0))

  pub read_then_written : (body values : List ℕ) → reading 0 values ≡ read_body layout body → written_body layout values ≡ cleared body
  read_then_written body values e =
      let read = told (body_code layout body) (table_numbers first_position layout.fields body) values e in
      let found = accepted_told layout body read.0 in
      let known = shaped layout.bytes layout.operation body found.0 in
      let ends = forward first_field (layout.bytes + 1) layout.fields whole.covers in
      let good = rows_all (field_good first_position body) 1 3 layout.fields whole.faults found.1 found.2 in
      let table = ap (table_written layout.fields) (sym read.1) ∙ table-read first_position first_field (layout.bytes + 1) layout.fields body (omega arith) whole.covers (omega arith) good in
      let left : layout.bytes + 1 - first_field ≡ length body - 3 = omega arith in
      let rest = table ∙ ap (λ (k : ℕ). part 3 k body) left ∙ part_tail 3 body in
      (λ i. free ∷ sym known.marked i ∷ sym known.said i ∷ rest i) ∙ ap (λ (l : List ℕ). free ∷ l) (sym (behind_free body (omega arith)))
