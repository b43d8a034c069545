-- Laws of the envelope: its tests in short, which numbers it carries, what is read of a written one, and what an answer tells of the bytes.
use Rattle.std.specs.Prelude.{Ok, Err}
use mathlib.Core.Path.{◌≡◌, refl, ap, sym, ◌∙◌}
use mathlib.Core.Bool.{Bool, true, false, not, ◌&&◌, ◌||◌, and-true, and_assoc}
use mathlib.Core.List.{List, [], ◌∷◌, ◌++◌}
use Prim.Native.Nat.{ℕ, ◌+◌, ◌^◌, ◌≤◌, ◌<◌}
use native.Mathlib.Omega.{arith}
use lib.Dec.{eqb, leb, lit<}
use lib.ListN.{length, take, get_or, length-append}
use borrow.Author.Tests.{leb-true, le-leb, lt-ltb, eqb-true, eq-eqb}
use Rattle.packed.specs.Part.{byte_at, part}
use Rattle.packed.specs.Every.{every}
use Rattle.packed.specs.Digits.{are_digits}
use Rattle.packed.specs.Number.{number}
use Rattle.packed.specs.Writing.{packed_bytes}
use Rattle.packed.proofs.Laws.Told.{both, three}
use Rattle.codes.specs.Chain.{◌when◌}
use Rattle.codes.specs.Refusal.{refusal_number}
use Rattle.codes.specs.declared.refusal.Refusal.{Refusal}
use Rattle.codes.specs.Field.{Field, between, earning, field_good, table_good, table_numbers, table_takes, table_written}
use Rattle.codes.proofs.Laws.Chain.{none_held}
use Rattle.codes.proofs.Laws.Field.{table_split, digit_runs, total, runs_join, adjoining}
use Rattle.codes.proofs.Laws.Table.{Adjoin, written_then_read as table-written, read_then_written as table-read, rows_of, rows_all}
use Rattle.message.specs.Limits.{envelope_bytes, largest_serial}
use Rattle.message.specs.declared.envelope.Kind.{Kind}
use Rattle.message.specs.declared.envelope.Envelope.{Envelope}
use Rattle.message.specs.Envelope.{kind_byte, length_good, envelope_fields, envelope_good, read_envelope, envelope_values, envelope_of, envelope_said, written_envelope, body_of}
use Rattle.message.proofs.Laws.Reading.{said_values, told, refusal_told}

-- eleven digits, and a serial
fields_split : (s : List ℕ) → table_good 1 21 envelope_fields s ≡ are_digits (part 1 11 s) && between 1 largest_serial (number (part 8 4 s))
unfolding envelope_fields earning every digit_runs total
fields_split s =
    table_split 1 21 envelope_fields s
    ∙ λ i. (runs_join 1 (3 ∷ 2 ∷ 2 ∷ 4 ∷ []) s true ∙ and-true (are_digits (part 1 11 s))) i && and-true (between 1 largest_serial (number (part 8 4 s))) i

pub long : (kind : Kind) (n : ℕ) → length_good kind n ≡ true → envelope_bytes ≤ n
long Kind.Message n e = omega (arith, leb-true 13 n (both (leb 13 n) (leb n 10412) e).0)
long Kind.Reply n e = omega (arith, eqb-true n 16 e)

-- where the length is good, the kind, the digits and the serial decide
pub tests_decide : (kind : Kind) (bytes : List ℕ) (byte serial : ℕ) (digits t : Bool) → length_good kind (length bytes) ≡ true → byte ≡ kind_byte kind → digits ≡ are_digits (part 1 11 bytes) → serial ≡ number (part 8 4 bytes) → eqb (byte_at 1 bytes) byte && digits && between 1 largest_serial serial ≡ t → envelope_good kind bytes ≡ t
unfolding envelope_good
tests_decide kind bytes byte serial digits t l k d s e =
    (λ i. l i && eqb (byte_at 1 bytes) (sym k i) && fields_split bytes i)
    ∙ sym (and_assoc (eqb (byte_at 1 bytes) byte) (are_digits (part 1 11 bytes)) (between 1 largest_serial (number (part 8 4 bytes))))
    ∙ (λ i. eqb (byte_at 1 bytes) byte && sym d i && between 1 largest_serial (sym s i))
    ∙ e

-- the rows fill the bytes after the kind
covers : Adjoin 2 (envelope_bytes + 1) envelope_fields
unfolding envelope_fields adjoining
covers = refl

-- numbers that an envelope can carry
pub in_range : (e : Envelope) → e.route.date < 100 ^ 3 → e.route.presenting < 100 ^ 2 → e.route.receiving < 100 ^ 2 → 1 ≤ e.serial → e.serial ≤ largest_serial → table_takes envelope_fields (envelope_values e) ≡ true
unfolding envelope_fields table_takes
in_range e d p r least most = rw (lt-ltb e.route.date (100 ^ 3) d, lt-ltb e.route.presenting (100 ^ 2) p, lt-ltb e.route.receiving (100 ^ 2) r, lt-ltb e.serial (100 ^ 4) (omega arith), le-leb 1 e.serial least, le-leb e.serial largest_serial most)

-- how long a whole message or a whole reply is
pub whole_length : (kind : Kind) (e : Envelope) (body : List ℕ) → length (written_envelope kind e ++ body) ≡ envelope_bytes + length body
unfolding table_written envelope_fields packed_bytes
whole_length kind e body = length-append (written_envelope kind e) body

-- the body follows whatever envelope is written
pub body_told : (kind : Kind) (e : Envelope) (body : List ℕ) → body_of (written_envelope kind e ++ body) ≡ body
unfolding table_written envelope_fields packed_bytes
body_told kind e body = refl

-- what a good envelope tells
good_told : (kind : Kind) (bytes : List ℕ) → envelope_good kind bytes ≡ true → (length_good kind (length bytes) ≡ true) × (byte_at 1 bytes ≡ kind_byte kind) × (table_good 1 21 envelope_fields bytes ≡ true)
unfolding envelope_good
good_told kind bytes e =
    let all = three (length_good kind (length bytes)) (eqb (byte_at 1 bytes) (kind_byte kind)) (table_good 1 21 envelope_fields bytes) e in
    (all.0, eqb-true (byte_at 1 bytes) (kind_byte kind) all.1, all.2)

-- that it is long enough for a body
pub enough : (kind : Kind) (bytes : List ℕ) → envelope_good kind bytes ≡ true → envelope_bytes ≤ length bytes
enough kind bytes e = long kind (length bytes) (good_told kind bytes e).0

-- its serial among them
pub serial_told : (kind : Kind) (bytes : List ℕ) → envelope_good kind bytes ≡ true → (1 ≤ (envelope_of bytes).serial) × ((envelope_of bytes).serial ≤ largest_serial)
serial_told kind bytes e =
    let n = number (part 8 4 bytes) in
    let range = (both (are_digits (part 1 11 bytes)) (between 1 largest_serial n) (sym (fields_split bytes) ∙ (good_told kind bytes e).2)).1 in
    let ends = both (leb 1 n) (leb n largest_serial) range in
    (leb-true 1 n ends.0, leb-true n largest_serial ends.1)

-- the first byte tells the kind
pub kind_told : (kind asked : Kind) (e : Envelope) (body : List ℕ) → envelope_good asked (written_envelope kind e ++ body) ≡ true → asked ≡ kind
kind_told Kind.Message Kind.Message e body h = refl
kind_told Kind.Reply Kind.Reply e body h = refl
kind_told Kind.Message Kind.Reply e body h = let one : ◌≡◌ {A = ℕ} 1 2 = (good_told Kind.Reply (written_envelope Kind.Message e ++ body) h).1 in absurd (omega arith)
kind_told Kind.Reply Kind.Message e body h = let two : ◌≡◌ {A = ℕ} 2 1 = (good_told Kind.Message (written_envelope Kind.Reply e ++ body) h).1 in absurd (omega arith)

-- the numbers of the table are those of an envelope
from_values : (bytes : List ℕ) (e : Envelope) → table_numbers 1 envelope_fields bytes ≡ envelope_values e → envelope_of bytes ≡ e
unfolding envelope_fields
from_values bytes e h =
    let at : (k : ℕ) → get_or (table_numbers 1 envelope_fields bytes) k 0 ≡ get_or (envelope_values e) k 0 = λ (k : ℕ). ap (λ (vs : List ℕ). get_or vs k 0) h in
    λ i. record { route = record { date = at 0 i; presenting = at 1 i; receiving = at 2 i }; serial = at 3 i }

module _ (kind : Kind) (e : Envelope) (body : List ℕ) (fits : table_takes envelope_fields (envelope_values e) ≡ true) where
  abbrev bytes : List ℕ
  bytes = written_envelope kind e ++ body

  rows : (table_numbers 1 envelope_fields bytes ≡ envelope_values e) × (every (field_good 1 bytes) envelope_fields ≡ true)
  rows = table-written 1 2 (envelope_bytes + 1) envelope_fields (envelope_values e) body bytes (omega arith) covers fits refl

  -- date, entities and serial are told, whatever follows
  pub envelope_told : envelope_of bytes ≡ e
  envelope_told = from_values bytes e rows.0

  pub written_good : length_good kind (envelope_bytes + length body) ≡ true → envelope_good kind bytes ≡ true
  unfolding envelope_good
  written_good l =
      λ i.
      (ap (length_good kind) (whole_length kind e body) ∙ l) i && eq-eqb (kind_byte kind) (kind_byte kind) refl i && rows_of (field_good 1 bytes) 21 envelope_fields rows.1 i

  pub written_then_read : length_good kind (envelope_bytes + length body) ≡ true → read_envelope kind bytes ≡ envelope_said (Ok e)
  unfolding ◌when◌
  written_then_read l = sym (said_values (21 when not (envelope_good kind bytes)) (table_numbers 1 envelope_fields bytes) (envelope_values e) (ap (λ (t : Bool). 21 when not t) (written_good l)) (sym rows.0))

-- what an answer tells of the bytes
pub read_told : (kind : Kind) (bytes : List ℕ) (e : Envelope) → envelope_said (Ok e) ≡ read_envelope kind bytes → (envelope_good kind bytes ≡ true) × (e ≡ envelope_of bytes)
read_told kind bytes e h =
    let read = told (21 when not (envelope_good kind bytes)) (table_numbers 1 envelope_fields bytes) (envelope_values e) h in
    (none_held 21 (envelope_good kind bytes) (lit< tt) read.0, sym (from_values bytes e read.1))

pub wrong_told : (kind : Kind) (bytes : List ℕ) (r : Refusal) → envelope_said (Err r) ≡ read_envelope kind bytes → (envelope_good kind bytes ≡ false) × (refusal_number r ≡ 21)
wrong_told kind bytes r h = refusal_told 21 (envelope_good kind bytes) r (table_numbers 1 envelope_fields bytes) h

-- a good envelope is written again
kind_first : (bytes : List ℕ) → envelope_bytes ≤ length bytes → take envelope_bytes bytes ≡ byte_at 1 bytes ∷ part 1 11 bytes
kind_first [] h = absurd (omega arith)
kind_first (x ∷ bytes) h = refl

one_code : every (λ (f : Field). eqb f.code 21 || eqb f.code 21) envelope_fields ≡ true
unfolding envelope_fields every
one_code = refl

pub read_then_written : (kind : Kind) (bytes : List ℕ) (e : Envelope) → envelope_said (Ok e) ≡ read_envelope kind bytes → written_envelope kind e ≡ take envelope_bytes bytes
read_then_written kind bytes e h =
    let read = told (21 when not (envelope_good kind bytes)) (table_numbers 1 envelope_fields bytes) (envelope_values e) h in
    let found = good_told kind bytes (read_told kind bytes e h).0 in
    let fits = enough kind bytes (read_told kind bytes e h).0 in
    let good = rows_all (field_good 1 bytes) 21 21 envelope_fields one_code found.2 found.2 in
    let table = ap (table_written envelope_fields) (sym read.1) ∙ table-read 1 2 (envelope_bytes + 1) envelope_fields bytes (omega arith) covers (omega arith) good in
    (λ i. sym found.1 i ∷ table i) ∙ sym (kind_first bytes fits)
