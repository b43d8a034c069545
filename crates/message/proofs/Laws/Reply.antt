-- Laws of the reply's body: a known operation byte has its number, what each outcome of the tests answers, the round trips, and what an
-- answer tells of the bytes.
use mathlib.Core.Path.{◌≡◌, refl, ap, sym, ◌∙◌, subst}
use mathlib.Core.Bool.{Bool, true, false, not, ◌&&◌, ◌||◌, and-false, false≢true}
use mathlib.Core.List.{List, [], ◌∷◌}
use Prim.Native.Nat.{ℕ}
use native.Mathlib.Omega.{arith}
use lib.Dec.{eqb, lit<}
use lib.ListN.{length, get_or}
use borrow.Author.Tests.{eq-eqb, eqb-true, ne_eqb}
use Rattle.packed.specs.Part.{byte_at}
use Rattle.packed.specs.Number.{byte_value}
use Rattle.packed.specs.Writing.{packed_byte}
use Rattle.packed.proofs.Laws.Told.{both, three}
use Rattle.codes.specs.Body.{free, mark, operation_of, cleared}
use Rattle.codes.specs.Chain.{◌when◌}
use Rattle.codes.specs.declared.code.Code.{Code}
use Rattle.codes.specs.Refusal.{refusal_number}
use Rattle.codes.specs.declared.refusal.Refusal.{Refusal}
use Rattle.std.specs.Prelude.{Option, Some, None, is_some, Ok, Err}
use Rattle.codes.specs.Code.{code_number, code_byte, read_code, known_code}
use Rattle.codes.proofs.Laws.Chain.{none_held}
use Rattle.codes.proofs.Laws.Code.{code_value, written_then_read as code-written, read_then_written as code_read}
use Rattle.message.specs.declared.reply.ReplyOperation.{ReplyOperation}
use Rattle.message.specs.declared.reply.Reply.{Reply}
use Rattle.message.specs.Limits.{reply_bytes}
use Rattle.message.specs.Reading.{Reading, reading}
use Rattle.message.specs.Reply.{operation_number, operation_byte, known_operation, reply_good, read_reply, reply_said, written_reply_body}
use Rattle.message.proofs.Laws.Reading.{said_values, said_number, told, refusal_told}

-- the byte of an operation is known, and holds its number
operation_known : (o : ReplyOperation) → known_operation (operation_byte o) ≡ true
unfolding operation_byte packed_byte
operation_known ReplyOperation.Other = refl
operation_known ReplyOperation.LotTotal = refl
operation_known ReplyOperation.SessionTotal = refl

operation_value : (o : ReplyOperation) → byte_value (operation_byte o) ≡ operation_number o
unfolding operation_byte packed_byte byte_value
operation_value ReplyOperation.Other = refl
operation_value ReplyOperation.LotTotal = refl
operation_value ReplyOperation.SessionTotal = refl

-- what each outcome of the tests answers
module _ (body : List ℕ) where
  refused : reply_good body ≡ false → reading 22 [] ≡ read_reply body
  unfolding ◌when◌
  refused e = said_number (22 when not (reply_good body)) 22 (byte_value (operation_of body) ∷ byte_value (byte_at 4 body) ∷ []) (lit< tt) (ap (λ (t : Bool). 22 when not t) e)

  pub other_length : (length body ≡ reply_bytes → ⊥) → reading 22 [] ≡ read_reply body
  unfolding reply_good
  other_length h = refused (rw (ne_eqb (length body) reply_bytes h))

  pub unmarked : (byte_at 2 body ≡ mark → ⊥) → reading 22 [] ≡ read_reply body
  unfolding reply_good
  unmarked h = refused (rw (ne_eqb (byte_at 2 body) mark h, and-false (eqb (length body) reply_bytes)))

  pub operation_unknown : known_operation (operation_of body) ≡ false → reading 22 [] ≡ read_reply body
  unfolding reply_good
  operation_unknown e = refused (rw (e, and-false (eqb (length body) reply_bytes && eqb (byte_at 2 body) mark)))

  pub code_unknown : read_code (byte_at 4 body) ≡ None → reading 22 [] ≡ read_reply body
  unfolding reply_good known_code
  code_unknown e = refused (rw (e, and-false (eqb (length body) reply_bytes && eqb (byte_at 2 body) mark && known_operation (operation_of body))))

  pub known_read : (r : Reply) → length body ≡ reply_bytes → byte_at 2 body ≡ mark → operation_of body ≡ operation_byte r.operation → read_code (byte_at 4 body) ≡ Some r.code → reply_said (Ok r) ≡ read_reply body
  unfolding reply_good known_code ◌when◌
  known_read r size marked operation code =
      let known : known_operation (operation_of body) ≡ true = ap known_operation operation ∙ operation_known r.operation in
      let good : reply_good body ≡ true = rw (eq-eqb (length body) reply_bytes size, eq-eqb (byte_at 2 body) mark marked, known, code) in
      let first : byte_value (operation_of body) ≡ operation_number r.operation = ap byte_value operation ∙ operation_value r.operation in
      let second : byte_value (byte_at 4 body) ≡ code_number r.code = ap byte_value (code_read (byte_at 4 body) r.code code) ∙ code_value r.code in
      said_values (22 when not (reply_good body)) (byte_value (operation_of body) ∷ byte_value (byte_at 4 body) ∷ []) (operation_number r.operation ∷ code_number r.code ∷ []) (ap (λ (t : Bool). 22 when not t) good) (λ i. sym first i ∷ sym second i ∷ [])

-- a written reply is read again
pub written_then_read : (r : Reply) → read_reply (written_reply_body r) ≡ reply_said (Ok r)
written_then_read r = sym (known_read (written_reply_body r) r refl refl refl (code-written r.code))

pub written_good : (r : Reply) → reply_good (written_reply_body r) ≡ true
written_good r = none_held 22 (reply_good (written_reply_body r)) (lit< tt) (ap (λ (x : Reading). x.number) (written_then_read r))

-- a known byte holds the number that it is written from
one_of : (P : ℕ → Type 0) (b x y z : ℕ) → P x → P y → P z → eqb b x || eqb b y || eqb b z ≡ true → P b
one_of P b x y z px py pz = go (eqb b x) (eqb b y) (eqb b z) refl refl refl
  where
    go : (t u v : Bool) → eqb b x ≡ t → eqb b y ≡ u → eqb b z ≡ v → t || u || v ≡ true → P b
    go true u v ex ey ez e = subst P (sym (eqb-true b x ex)) px
    go false true v ex ey ez e = subst P (sym (eqb-true b y ey)) py
    go false false true ex ey ez e = subst P (sym (eqb-true b z ez)) pz
    go false false false ex ey ez e = absurd (false≢true e)

operation_again : (b : ℕ) → known_operation b ≡ true → b ≡ packed_byte (byte_value b)
unfolding operation_byte packed_byte byte_value
operation_again b e = one_of (λ (n : ℕ). n ≡ packed_byte (byte_value n)) b (operation_byte ReplyOperation.Other) (operation_byte ReplyOperation.LotTotal) (operation_byte ReplyOperation.SessionTotal) refl refl refl e

code_again : (b : ℕ) → known_code b ≡ true → b ≡ packed_byte (byte_value b)
unfolding known_code code_byte
code_again b e = go (read_code b) refl e
  where
    go : (r : Option Code) → read_code b ≡ r → is_some r ≡ true → b ≡ packed_byte (byte_value b)
    go (Some c) k h = let byte = code_read b c k in byte ∙ ap packed_byte (sym (ap byte_value byte ∙ code_value c))
    go None k h = absurd (false≢true h)

-- what a good reply tells
record Known (body : List ℕ) : Type 0 where
  pub size : length body ≡ reply_bytes
  pub marked : byte_at 2 body ≡ mark
  pub operation : known_operation (operation_of body) ≡ true
  pub code : known_code (byte_at 4 body) ≡ true

known : (body : List ℕ) → reply_good body ≡ true → Known body
unfolding reply_good
known body e =
    let all = three (eqb (length body) reply_bytes && eqb (byte_at 2 body) mark) (known_operation (operation_of body)) (known_code (byte_at 4 body)) e in
    let first = both (eqb (length body) reply_bytes) (eqb (byte_at 2 body) mark) all.0 in
    record { size = eqb-true (length body) reply_bytes first.0; marked = eqb-true (byte_at 2 body) mark first.1; operation = all.1; code = all.2 }

-- what an answer tells of the bytes
pub read_told : (r : Reply) (body : List ℕ) → reply_said (Ok r) ≡ read_reply body → (length body ≡ reply_bytes) × (byte_at 2 body ≡ mark) × (operation_of body ≡ operation_byte r.operation) × (byte_at 4 body ≡ code_byte r.code)
unfolding operation_byte code_byte
read_told r body e =
    let operation = operation_of body in
    let code = byte_at 4 body in
    let read = told (22 when not (reply_good body)) (byte_value operation ∷ byte_value code ∷ []) (operation_number r.operation ∷ code_number r.code ∷ []) e in
    let k = known body (none_held 22 (reply_good body) (lit< tt) read.0) in
    let value : (n : ℕ) → get_or (byte_value operation ∷ byte_value code ∷ []) n 0 ≡ get_or (operation_number r.operation ∷ code_number r.code ∷ []) n 0 = λ (n : ℕ). ap (λ (vs : List ℕ). get_or vs n 0) read.1 in
    (k.size, k.marked, operation_again operation k.operation ∙ ap packed_byte (value 0), code_again code k.code ∙ ap packed_byte (value 1))

pub unknown_told : (body : List ℕ) (r : Refusal) → reply_said (Err r) ≡ read_reply body → (reply_good body ≡ false) × (refusal_number r ≡ 22)
unknown_told body r e = refusal_told 22 (reply_good body) r (byte_value (operation_of body) ∷ byte_value (byte_at 4 body) ∷ []) e

four : (body : List ℕ) → length body ≡ reply_bytes → cleared body ≡ free ∷ byte_at 2 body ∷ operation_of body ∷ byte_at 4 body ∷ []
four [] h = absurd (omega arith)
four (x ∷ []) h = absurd (omega arith)
four (x ∷ m ∷ []) h = absurd (omega arith)
four (x ∷ m ∷ o ∷ []) h = absurd (omega arith)
four (x ∷ m ∷ o ∷ k ∷ []) h = refl
four (x ∷ m ∷ o ∷ k ∷ y ∷ rest) h = absurd (omega arith)

-- a known reply is written again
pub read_then_written : (r : Reply) (body : List ℕ) → reply_said (Ok r) ≡ read_reply body → written_reply_body r ≡ cleared body
read_then_written r body e =
    let k = read_told r body e in
    (λ i. free ∷ sym k.1 i ∷ sym k.2 i ∷ sym k.3 i ∷ []) ∙ sym (four body k.0)
