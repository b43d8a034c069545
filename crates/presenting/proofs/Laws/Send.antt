-- What the answer of a send tells, once for all four: a message that nothing stops stands in the line buffer and awaits its reply; else
-- everything is left.
use mathlib.Core.Path.{◌≡◌, refl, ap, sym, subst, ◌∙◌}
use mathlib.Core.Bool.{Bool, true, false, cond, false≢true}
use mathlib.Core.List.{List}
use Prim.Native.Nat.{ℕ, ◌+◌, ◌-◌, ◌≤◌}
use native.Mathlib.Omega.{arith}
use lib.Dec.{leb}
use lib.ListN.{length, length-drop}
use lib.Seq.{sets, length-sets}
use borrow.Author.Tests.{eqb-true, eq-eqb}
use borrow.Rule.Slice.PartMut.{mid_of, put_mid}
use Rattle.packed.specs.Writing.{packed_bytes}
use Rattle.packed.proofs.Laws.Part.{part_tail}
use Rattle.codes.specs.Chain.{◌when◌, ◌orelse◌}
use Rattle.codes.specs.Field.{table_written}
use Rattle.codes.proofs.Laws.Chain.{joins, rest_same}
use Rattle.message.specs.declared.envelope.Kind.{Kind}
use Rattle.message.specs.Limits.{envelope_bytes, largest_serial}
use Rattle.message.specs.Envelope.{envelope_fields, written_envelope}
use Rattle.message.specs.Line.{whole_message}
use Rattle.message.proofs.Laws.Buffer.{both_written}
use Rattle.message.proofs.Laws.Envelope.{whole_length}
use Rattle.session.specs.declared.effect.Effect.{Effect}
use Rattle.session.specs.declared.session.Session.{Session}
use Rattle.session.specs.Parties.{Direction}
use Rattle.session.specs.declared.running.Running.{Running}
use Rattle.session.specs.Outcome.{Held, Outcome, no_room, held}
use Rattle.session.specs.Time.{time_refusal}
use Rattle.session.specs.Sending.{is_pending, next_envelope, send_refusal, sent, posted, send, Send, send_stop, sent_effect, sent_body, send_message}
use Rattle.session.specs.Premise.{Sound, Carried, PendingSound, PendingCarried, Kept, KeptBeside}
use Rattle.session.specs.Engine.{Call, meaning}
use Rattle.session.proofs.Laws.Refusals.{SendTold, send_told}
use Rattle.session.proofs.Laws.EveryCall.{kept_beside, sends_kept}
use Rattle.calls.proofs.Laws.Said.{said_done, said_refused, so_kept, so_kept_beside}
use Rattle.presenting.specs.declared.answer.SendOutcome.{SendOutcome}
use Rattle.presenting.specs.Said.{send_number, send_said}
use Rattle.presenting.specs.Inner.Order.{before_code, from_code}
use Rattle.presenting.specs.Inner.Begun.{unstopped, Begun}

-- the chain of a send is the two parts that the code takes
pub refusal_split : (time code bytes room : ℕ) (s : Session) → (before_code time s orelse from_code code bytes room) ≡ send_refusal time code bytes room s
unfolding send_refusal
refusal_split time code bytes room s =
    let rest = code orelse 23 when no_room bytes room in
    let clock = time_refusal time s.seen s.close in
    let pending = 34 when is_pending s.presenting.pending in
    let used = 36 when leb largest_serial s.presenting.serial in
    joins clock (pending orelse used) rest ∙ ap (λ (n : ℕ). clock orelse n) (joins pending used rest)

-- where a code stops the message, its length is not asked
refusal_same : (time code a b room : ℕ) (s : Session) → (code ≡ 0 → a ≡ b) → send_refusal time code a room s ≡ send_refusal time code b room s
refusal_same time code a b room s h =
    sym (refusal_split time code a room s)
    ∙ ap (λ (n : ℕ). before_code time s orelse n) (rest_same code (23 when no_room a room) (23 when no_room b room) (λ (e : code ≡ 0). ap (λ (n : ℕ). 23 when no_room n room) (h e)))
    ∙ refusal_split time code b room s

-- a send: what it is given, and what it is lent
pub record Sending : Type 0 where
  pub time : ℕ
  pub message : Send
  pub lent : Held

-- its own code, what it would post, and what it means
abbrev pub code_of : Sending → ℕ
code_of x = send_stop x.message x.time x.lent

abbrev pub body_in : Sending → List ℕ
body_in x = sent_body x.message x.lent

abbrev whole_of : Sending → List ℕ
whole_of x = whole_message (next_envelope x.lent.session) (body_in x)

abbrev pub meant : Sending → Outcome
meant x = send_message x.time x.message x.lent

-- it was begun with its own code, and where that does not stop it with the length of its body, this one, and its effect
pub record Beginning (x : Sending) (size : ℕ) (first : List ℕ) (o : SendOutcome) : Type 0 where
  pub code : ℕ
  pub effect : Effect
  pub begun : Begun x.time code (envelope_bytes + size) effect x.lent.session x.lent.line first o
  pub same : code ≡ code_of x
  pub body : code_of x ≡ 0 → size ≡ length (body_in x)
  pub awaits : code_of x ≡ 0 → effect ≡ sent_effect x.message x.lent

-- what is lent for the body: the line buffer behind the envelope
abbrev rest_of : List ℕ → List ℕ
rest_of first = mid_of envelope_bytes (length first - envelope_bytes) first

-- and there is room for it
pub record Opened (x : Sending) (size : ℕ) (first : List ℕ) : Type 0 where
  pub tail : envelope_bytes ≤ length first
  pub fits : length (body_in x) ≤ length (rest_of first)
  pub room : size ≤ length (rest_of first)

module _ (x : Sending) (size : ℕ) (first : List ℕ) (o : SendOutcome) (b : Beginning x size first o) where
  abbrev s : Session
  s = x.lent.session

  abbrev bytes : ℕ
  bytes = envelope_bytes + size

  abbrev refusal : ℕ
  refusal = send_refusal x.time (code_of x) (length (whole_of x)) (length x.lent.line) s

  abbrev done : Outcome
  done = posted x.time (sent_effect x.message x.lent) (body_in x) x.lent

  whole : code_of x ≡ 0 → bytes ≡ length (whole_of x)
  whole e = ap (λ (n : ℕ). envelope_bytes + n) (b.body e) ∙ sym (whole_length Kind.Message (next_envelope s) (body_in x))

  chain : send_number o.answer ≡ refusal
  chain =
      b.begun.number
      ∙ ap (λ (n : ℕ). send_refusal x.time n bytes (length x.lent.line) s) b.same
      ∙ refusal_same x.time (code_of x) bytes (length (whole_of x)) (length x.lent.line) s whole

  -- something stops it, and all is left
  unposted : unstopped o.answer ≡ false → send_said o x.lent.running first ≡ meant x
  unfolding send_message send
  unposted h =
      (λ i. record { number = send_number o.answer; written = (b.begun.written ∙ ap (λ (t : Bool). cond t bytes 0) h) i; left = held ((b.begun.session ∙ ap (λ (t : Bool). cond t (sent x.time b.effect s) s) h) i) x.lent.running ((b.begun.envelope ∙ ap (λ (t : Bool). cond t (sets x.lent.line 0 (written_envelope Kind.Message (next_envelope s))) x.lent.line) h) i) })
      ∙ said_refused (send_number o.answer) refusal x.lent done chain (λ (e : send_number o.answer ≡ 0). false≢true (sym h ∙ eq-eqb (send_number o.answer) 0 e))

  -- nothing stops it: there is room, and once the envelope is written the rest of the line is lent for the body
  module _ (h : unstopped o.answer ≡ true) where
    e : send_number o.answer ≡ 0
    e = eqb-true (send_number o.answer) 0 h

    told : SendTold (code_of x) (length (whole_of x)) x.lent
    told = send_told x.time (code_of x) (length (whole_of x)) x.lent (sym chain ∙ e)

    written_first : first ≡ sets x.lent.line 0 (written_envelope Kind.Message (next_envelope s))
    written_first = b.begun.envelope ∙ ap (λ (t : Bool). cond t (sets x.lent.line 0 (written_envelope Kind.Message (next_envelope s))) x.lent.line) h

    room : envelope_bytes + length (body_in x) ≤ length x.lent.line
    room = subst (λ (n : ℕ). n ≤ length x.lent.line) (whole_length Kind.Message (next_envelope s) (body_in x)) told.room

    same_room : length first ≡ length x.lent.line
    same_room = ap length written_first ∙ length-sets x.lent.line 0 (written_envelope Kind.Message (next_envelope s))

    open_line : Opened x size first
    open_line =
        let left = ap length (part_tail envelope_bytes first) ∙ length-drop envelope_bytes first in
        record {
          tail = omega (arith, room, same_room);
          fits = omega (arith, room, same_room, left);
          room = omega (arith, room, same_room, left, b.body told.unstopped);
        }

    posted_so : (after : List ℕ) → after ≡ sets (rest_of first) 0 (body_in x) → send_said o x.lent.running (put_mid envelope_bytes (length first - envelope_bytes) first after) ≡ meant x
    unfolding send_message send table_written envelope_fields packed_bytes
    posted_so after body =
        let all = b.begun.written ∙ ap (λ (t : Bool). cond t bytes 0) h ∙ whole told.unstopped in
        let next = b.begun.session ∙ (λ i. cond (h i) (sent x.time (b.awaits told.unstopped i) s) s) in
        let line = both_written x.lent.line first after (written_envelope Kind.Message (next_envelope s)) (body_in x) envelope_bytes refl room written_first body in
        (λ i. record { number = e i; written = all i; left = held (next i) x.lent.running (line i) }) ∙ said_done (send_number o.answer) refusal x.lent done chain e

-- A send that is lent running totals: what is said is what is meant, and the premise of its direction is kept.
abbrev Told : Sending → SendOutcome → List ℕ → Type 0
Told x o after = (send_said o x.lent.running after ≡ meant x) × KeptBeside Direction.presenting x.lent.session o.session x.lent.running

-- What follows from a beginning and the test that the code makes of its answer.
module _ {x : Sending} {size : ℕ} {first : List ℕ} {o : SendOutcome} {goes : Bool} (b : Beginning x size first o) (asked : goes ≡ unstopped o.answer) where
  pub opened : goes ≡ true → Opened x size first
  opened h = open_line x size first o b (sym asked ∙ h)

  module _ (sound : Sound x.lent.session) (carried : Carried Direction.presenting x.lent.session x.lent.running) where
    kept_said : (after : List ℕ) → send_said o x.lent.running after ≡ meant x → Told x o after
    unfolding meaning
    kept_said after all = (all, so_kept_beside x.lent.session _ _ all Direction.presenting (kept_beside (Call.send x.time x.message) x.lent (record { sound = sound; carried = carried })))

    pub stopped_told : goes ≡ false → Told x o first
    stopped_told h = kept_said first (unposted x size first o b (sym asked ∙ h))

    pub posted_told : {after body : List ℕ} → goes ≡ true → body ≡ body_in x → after ≡ sets (rest_of first) 0 body → Told x o (put_mid envelope_bytes (length first - envelope_bytes) first after)
    posted_told {after} h same put = kept_said _ (posted_so x size first o b (sym asked ∙ h) after (put ∙ ap (λ (l : List ℕ). sets (rest_of first) 0 l) same))

-- A send that is lent none: the same beside any running totals, where its effect asks nothing of them, and the premise of both directions is kept.
abbrev pub beside : Sending → Running → Sending
beside x u = record { time = x.time; message = x.message; lent = held x.lent.session u x.lent.line }

abbrev UnlentTold : Sending → SendOutcome → List ℕ → Type 0
UnlentTold x o after = ((u : Running) → send_said o u after ≡ meant (beside x u)) × Kept x.lent.session o.session

pub record Unlent (x : Sending) (size : ℕ) (first : List ℕ) (o : SendOutcome) : Type 0 where
  pub each : (u : Running) → Beginning (beside x u) size first o
  pub sound : code_of x ≡ 0 → PendingSound (sent_effect x.message x.lent) x.lent.session.presenting.counters
  pub carried : (u : Running) → PendingCarried (sent_effect x.message x.lent) u

module _ {x : Sending} {size : ℕ} {first : List ℕ} {o : SendOutcome} {goes : Bool} (b : Unlent x size first o) (asked : goes ≡ unstopped o.answer) where
  pub opened_unlent : goes ≡ true → Opened x size first
  opened_unlent h = open_line x size first o (b.each x.lent.running) (sym asked ∙ h)

  module _ (sound : Sound x.lent.session) where
    kept_unlent : (after : List ℕ) → ((u : Running) → send_said o u after ≡ meant (beside x u)) → UnlentTold x o after
    kept_unlent after all = (all, so_kept x.lent.session _ _ (all x.lent.running) (sends_kept x.time x.message x.lent b.sound b.carried sound))

    pub stopped_unlent : goes ≡ false → UnlentTold x o first
    stopped_unlent h = kept_unlent first (λ (u : Running). unposted (beside x u) size first o (b.each u) (sym asked ∙ h))

    pub posted_unlent : {after body : List ℕ} → goes ≡ true → ((u : Running) → body ≡ body_in (beside x u)) → after ≡ sets (rest_of first) 0 body → UnlentTold x o (put_mid envelope_bytes (length first - envelope_bytes) first after)
    posted_unlent {after} h same put = kept_unlent _ (λ (u : Running). posted_so (beside x u) size first o (b.each u) (sym asked ∙ h) after (put ∙ ap (λ (l : List ℕ). sets (rest_of first) 0 l) (same u)))
