-- Laws of all calls: a refused one gives everything back, the directions never touch each other, the parties never change, the last seen time and the
-- close move as the paper says, the premise is kept.
use mathlib.Core.Path.{◌≡◌, refl, ap, subst, sym, ◌∙◌}
use mathlib.Core.Bool.{Bool, true, false, cond, false≢true}
use mathlib.Core.List.{List}
use Prim.Native.Nat.{ℕ, zero, suc}
use native.Mathlib.Omega.{arith}
use lib.ListN.{length}
use lib.Seq.{length-sets}
use Rattle.message.specs.Envelope.{envelope_of, body_of}
use Rattle.message.specs.Line.{whole_reply}
use Rattle.session.specs.Parties.{Direction, opposite}
use Rattle.session.specs.declared.effect.Effect.{Effect}
use Rattle.session.specs.declared.session.Close.{Close}
use Rattle.session.specs.declared.session.Presenting.{Presenting}
use Rattle.session.specs.declared.session.Receiving.{Receiving}
use Rattle.session.specs.declared.session.Session.{Session}
use Rattle.session.specs.declared.running.Running.{Running}
use Rattle.session.specs.Outcome.{Held, Outcome, refused, decided, silent, wrote, held, with_presenting, with_receiving}
use Rattle.session.specs.Hours.{at_close}
use Rattle.session.specs.Time.{time_refusal, clock_refusal}
use Rattle.session.specs.Sending.{send_refusal, send, Send, send_stop, sent_effect, send_message}
use Rattle.session.specs.Receiving.{is_next, receive_refusal, receive, receiving_after, after_new, after_repeat, after_message, replying}
use Rattle.session.specs.Reply.{reply_refusal, take_reply}
use Rattle.session.specs.Clock.{closing, clock}
use Rattle.session.specs.Premise.{PendingSound, PendingCarried, Sound, Carried, Kept, KeptBeside}
use Rattle.session.specs.Engine.{Call, Engine, meaning, direction_of, lent, given_back, performed, Ready}
use Rattle.session.proofs.Laws.Decided.{either, unrefused, refused_keeps}
use Rattle.session.proofs.Laws.Sound.{Premise, send_sound, send_carried, clock_sound, clock_carried, send_message_keeps, receive_keeps, reply_keeps, clock_keeps}

-- a call is a refusal that leaves what it was lent, or what it does where its chain gives 0
pub record Decided (h : Held) (o : Outcome) : Type 0 where
  pub refusal : ℕ
  pub done : Outcome
  pub unrefused : done.number ≡ 0
  pub outcome : o ≡ decided refusal h done

pub is_decided : (call : Call) (h : Held) → Decided h (meaning call h)
unfolding meaning send_message send receive take_reply clock
is_decided (Call.send time x) h = record { refusal = _; done = _; unrefused = refl; outcome = refl }
is_decided (Call.receive time bytes) h = record { refusal = _; done = _; unrefused = refl; outcome = refl }
is_decided (Call.reply time bytes) h = record { refusal = _; done = _; unrefused = refl; outcome = refl }
is_decided (Call.clock time) h = record { refusal = _; done = _; unrefused = refl; outcome = refl }
is_decided Call.report h = record { refusal = 0; done = silent h; unrefused = refl; outcome = sym (unrefused h (silent h)) }

-- What holds after a new message and after a repeat holds after a message.
pub either_message : (Q : Held → Type 0) (time : ℕ) (bytes : List ℕ) (h : Held) → Q (after_new time (body_of bytes) h) → Q (after_repeat time h) → Q (after_message time bytes h)
either_message Q time bytes h new repeat = go (is_next bytes h.session.receiving.serial)
  where
    go : (t : Bool) → Q (cond t (after_new time (body_of bytes) h) (after_repeat time h))
    go true = new
    go false = repeat

-- Before the reply is written the line buffer is as it was lent.
pub same_line : (time : ℕ) (bytes : List ℕ) (h : Held) → (after_message time bytes h).line ≡ h.line
same_line time bytes h = either_message (λ (a : Held). a.line ≡ h.line) time bytes h refl refl

-- A refused call gives back what it was lent.
pub gives_back : (call : Call) (h : Held) → ((meaning call h).number ≡ 0 → ⊥) → meaning call h ≡ refused (meaning call h).number h
gives_back call h number = let d = is_decided call h in go d.refusal d.done d.unrefused (meaning call h) d.outcome number
  where
    go : (n : ℕ) (done : Outcome) → done.number ≡ 0 → (o : Outcome) → o ≡ decided n h done → (o.number ≡ 0 → ⊥) → o ≡ refused o.number h
    go zero done u o e number = absurd (number (ap (λ (p : Outcome). p.number) (e ∙ unrefused h done) ∙ u))
    go (suc k) done u o e number = e ∙ refused_keeps (suc k) h done (λ (z : suc k ≡ 0). omega arith) ∙ λ i. refused (sym (ap (λ (p : Outcome). p.number) (e ∙ refused_keeps (suc k) h done (λ (z : suc k ≡ 0). omega arith))) i) h

-- what a call is lent, with another record of one direction
abbrev held_receiving : Receiving → Held → Held
held_receiving r h = held (with_receiving r h.session) h.running h.line

abbrev held_presenting : Presenting → Held → Held
held_presenting p h = held (with_presenting p h.session) h.running h.line

-- an outcome with a change of what is left
abbrev changed : (Held → Held) → Outcome → Outcome
changed f o = record { number = o.number; written = o.written; left = f o.left }

apart : (f : Held → Held) (n : ℕ) (h : Held) (done : Outcome) → decided n (f h) (changed f done) ≡ changed f (decided n h done)
unfolding decided
apart f zero h done = refl
apart f (suc n) h done = refl

-- A call of one direction neither asks nor touches the other: with another state of that one it gives the same answer, and leaves it.
abbrev Apart : Direction → (Held → Outcome) → Type 0
Apart Direction.presenting call = (h : Held) (r : Receiving) → call (held_receiving r h) ≡ changed (held_receiving r) (call h)
Apart Direction.receiving call = (h : Held) (p : Presenting) → call (held_presenting p h) ≡ changed (held_presenting p) (call h)

-- all calls but the clock call and the report, which look at both, belong to one direction
abbrev belongs : Call → Bool
belongs (Call.clock time) = false
belongs (Call.send time x) = true
belongs (Call.receive time bytes) = true
belongs (Call.reply time bytes) = true
belongs Call.report = false

received_apart : (time : ℕ) (bytes : List ℕ) → Apart Direction.receiving (receive time bytes)
unfolding receive receive_refusal time_refusal clock_refusal
received_apart time bytes h p =
    let next = is_next bytes h.session.receiving.serial in
    let a = after_new time (body_of bytes) h in
    let b = after_repeat time h in
    ap (λ (after : Held). decided (receive_refusal time bytes (length h.line) h.session) (held_presenting p h) (replying bytes after)) (either_way next a b) ∙ apart (held_presenting p) (receive_refusal time bytes (length h.line) h.session) h (replying bytes (cond next a b))
  where
    either_way : (t : Bool) (a b : Held) → cond t (held_presenting p a) (held_presenting p b) ≡ held_presenting p (cond t a b)
    either_way true a b = refl
    either_way false a b = refl

sent_apart : (time : ℕ) (x : Send) → Apart Direction.presenting (send_message time x)
unfolding send_message send send_refusal time_refusal clock_refusal
sent_apart time (Send.header moment centre number) h r = apart (held_receiving r) _ h _
sent_apart time (Send.detail operation part) h r = apart (held_receiving r) _ h _
sent_apart time Send.lot_total h r = apart (held_receiving r) _ h _
sent_apart time Send.session_total h r = apart (held_receiving r) _ h _

pub directions_apart : (call : Call) → belongs call ≡ true → Apart (direction_of call) (meaning call)
unfolding meaning take_reply reply_refusal time_refusal clock_refusal
directions_apart (Call.send time x) b = sent_apart time x
directions_apart (Call.reply time bytes) b = λ (h : Held) (r : Receiving). apart (held_receiving r) _ h _
directions_apart Call.report b = absurd (false≢true b)
directions_apart (Call.clock time) b = absurd (false≢true b)
directions_apart (Call.receive time bytes) b = received_apart time bytes

-- The parties never change, and the records of the two directions change in calls of their own alone.
abbrev pub OtherSide : Direction → (before after : Session) → Type 0
OtherSide Direction.presenting before after = after.receiving ≡ before.receiving
OtherSide Direction.receiving before after = after.presenting ≡ before.presenting

pub record Untouched (d : Direction) (h after : Held) : Type 0 where
  pub parties : after.session.parties ≡ h.session.parties
  pub other_side : OtherSide d h.session after.session

by_decision : (h : Held) (n : ℕ) (done : Outcome) → done.left.session.parties ≡ h.session.parties → done.left.session.receiving ≡ h.session.receiving → Untouched Direction.presenting h (decided n h done).left
by_decision h n done p r = either (λ (o : Outcome). Untouched Direction.presenting h o.left) n h done (λ (k : ℕ). record { parties = refl; other_side = refl }) (λ (e : n ≡ 0). record { parties = p; other_side = r })

pub untouched : (call : Call) (h : Held) → Untouched (direction_of call) h (meaning call h).left
unfolding meaning send_message send receive take_reply clock
untouched (Call.send time x) h = by_decision h _ _ refl refl
untouched (Call.reply time bytes) h = by_decision h _ _ refl refl
untouched (Call.clock time) h = by_decision h _ _ refl refl
untouched Call.report h = record { parties = refl; other_side = refl }
untouched (Call.receive time bytes) h =
    either (λ (o : Outcome). Untouched Direction.receiving h o.left) (receive_refusal time bytes (length h.line) h.session) h _ (λ (k : ℕ). record { parties = refl; other_side = refl })
    (λ (e : receive_refusal time bytes (length h.line) h.session ≡ 0). either_message (λ (a : Held). Untouched Direction.receiving h (replying bytes a).left) time bytes h (record { parties = refl; other_side = refl }) (record { parties = refl; other_side = refl }))

-- 'An unrefused call makes its time the last seen', and only a clock call changes the close: both of a session, and as a call leaves them.
pub record Stamp : Type 0 where
  pub seen : ℕ
  pub close : Close

abbrev pub stamp_of : Session → Stamp
stamp_of s = record { seen = s.seen; close = s.close }

abbrev pub stamped : Call → Session → Stamp
stamped (Call.send time x) s = record { seen = time; close = s.close }
stamped (Call.receive time bytes) s = record { seen = time; close = s.close }
stamped (Call.reply time bytes) s = record { seen = time; close = s.close }
stamped (Call.clock time) s = record { seen = time; close = cond (at_close time) (closing s) s.close }
stamped Call.report s = stamp_of s

stamp_decided : (stamp : Stamp) (n : ℕ) (h : Held) (done : Outcome) → stamp_of done.left.session ≡ stamp → (decided n h done).number ≡ 0 → stamp_of (decided n h done).left.session ≡ stamp
stamp_decided stamp n h done d = either (λ (o : Outcome). o.number ≡ 0 → stamp_of o.left.session ≡ stamp) n h done (λ (k : ℕ) (z : suc k ≡ 0). absurd (omega arith)) (λ (e : n ≡ 0) (z : done.number ≡ 0). d)

pub stamps : (call : Call) (h : Held) → (meaning call h).number ≡ 0 → stamp_of (meaning call h).left.session ≡ stamped call h.session
unfolding meaning send_message send receive take_reply clock
stamps (Call.send time x) h = stamp_decided _ _ h _ refl
stamps (Call.reply time bytes) h = stamp_decided _ _ h _ refl
stamps (Call.clock time) h = stamp_decided _ _ h _ refl
stamps Call.report h = λ z. refl
stamps (Call.receive time bytes) h = stamp_decided _ _ h _ (either_message (λ (a : Held). stamp_of a.session ≡ stamped (Call.receive time bytes) h.session) time bytes h refl refl)

-- Every call keeps the premise of its direction.
pub keeps : (call : Call) (h : Held) → Premise (direction_of call) h → Premise (direction_of call) (meaning call h).left
unfolding meaning
keeps (Call.send time x) h g = send_message_keeps time x h g
keeps (Call.receive time bytes) h g = receive_keeps time bytes h g
keeps (Call.reply time bytes) h g = reply_keeps time bytes h g
keeps (Call.clock time) h g = clock_keeps time h Direction.presenting g
keeps Call.report h g = g

-- What the other direction carries it carries on, since its record stays.
other_carried : (d : Direction) (before after : Session) → OtherSide d before after → (t : Running) → Carried (opposite d) before t → Carried (opposite d) after t
other_carried Direction.presenting before after same t g =
    record { fits = g.fits; pending = tt }
other_carried Direction.receiving before after same t g =
    record {
      fits = g.fits;
      pending = subst (λ (x : Presenting). PendingCarried x.pending t) (sym same) g.pending;
    }

-- So every call keeps the premise of both.
pub kept_beside : (call : Call) (h : Held) → Premise (direction_of call) h → KeptBeside (direction_of call) h.session (meaning call h).left.session (meaning call h).left.running
kept_beside call h g = let after = keeps call h g in record { sound = after.sound; carried = after.carried; other = other_carried (direction_of call) h.session (meaning call h).left.session (untouched call h).other_side }

-- and those that are lent no running totals, whatever both carry: a send whose effect asks nothing of them, and the clock call
pub sends_kept : (time : ℕ) (x : Send) (h : Held) → (send_stop x time h ≡ 0 → PendingSound (sent_effect x h) h.session.presenting.counters) → ((t : Running) → PendingCarried (sent_effect x h) t) → Sound h.session → Kept h.session (send_message time x h).left.session
unfolding send_message meaning
sends_kept time x h sound carried g = record { sound = send_sound time _ _ _ h g sound; carried = each }
  where
    each : (d : Direction) (t : Running) → Carried d h.session t → Carried d (send_message time x h).left.session t
    each Direction.presenting t c = send_carried time _ _ _ h t c (λ (e : send_stop x time h ≡ 0). carried t)
    each Direction.receiving t c = other_carried Direction.presenting h.session (send_message time x h).left.session (untouched (Call.send time x) h).other_side t c

pub clock_kept : (time : ℕ) (h : Held) → Sound h.session → Kept h.session (clock time h).left.session
clock_kept time h g = record { sound = clock_sound time h g; carried = clock_carried time h }

-- so an engine that is ready stays so
pub ready_kept : (call : Call) (line : List ℕ) (e : Engine) → Ready e → Ready (performed call line e).engine
unfolding performed
ready_kept call line e r = go (direction_of call) (λ (h : Held) (g : Premise (direction_of call) h). kept_beside call h g)
  where
    go : (d : Direction) → ((h : Held) → Premise d h → KeptBeside d h.session (meaning call h).left.session (meaning call h).left.running) → Ready (given_back d (meaning call (lent d line e)).left e)
    go Direction.presenting k = let after = k (lent Direction.presenting line e) (record { sound = r.sound; carried = r.presenting }) in record { sound = after.sound; presenting = after.carried; receiving = after.other e.receiving r.receiving }
    go Direction.receiving k = let after = k (lent Direction.receiving line e) (record { sound = r.sound; carried = r.receiving }) in record { sound = after.sound; presenting = after.other e.presenting r.presenting; receiving = after.carried }

-- and its parties stay
pub parties_kept : (call : Call) (line : List ℕ) (e : Engine) → (performed call line e).engine.session.parties ≡ e.session.parties
unfolding performed
parties_kept call line e = go (direction_of call) refl
  where
    go : (d : Direction) → direction_of call ≡ d → (given_back d (meaning call (lent d line e)).left e).session.parties ≡ e.session.parties
    go Direction.presenting way = (untouched call (lent Direction.presenting line e)).parties
    go Direction.receiving way = (untouched call (lent Direction.receiving line e)).parties

-- A message is not refused because of its code: it is answered, and its serial becomes the last.
pub message_told : (time : ℕ) (bytes : List ℕ) (h : Held) → receive_refusal time bytes (length h.line) h.session ≡ 0 → is_next bytes h.session.receiving.serial ≡ true → receive time bytes h ≡ wrote (whole_reply (envelope_of bytes) (after_new time (body_of bytes) h).session.receiving.reply) (after_new time (body_of bytes) h)
unfolding receive
message_told time bytes h e n = (λ i. decided (e i) h (replying bytes (cond (n i) (after_new time (body_of bytes) h) (after_repeat time h)))) ∙ unrefused h (replying bytes (after_new time (body_of bytes) h))

pub serial_taken : (time : ℕ) (body : List ℕ) (h : Held) → (after_new time body h).session.receiving.serial ≡ suc h.session.receiving.serial
unfolding receiving_after
serial_taken time body h = refl

-- A repeat writes the kept reply again and moves the last seen time alone.
pub repeat_told : (time : ℕ) (bytes : List ℕ) (h : Held) → receive_refusal time bytes (length h.line) h.session ≡ 0 → is_next bytes h.session.receiving.serial ≡ false → receive time bytes h ≡ wrote (whole_reply (envelope_of bytes) h.session.receiving.reply) (after_repeat time h)
unfolding receive
repeat_told time bytes h e n = (λ i. decided (e i) h (replying bytes (cond (n i) (after_new time (body_of bytes) h) (after_repeat time h)))) ∙ unrefused h (replying bytes (after_repeat time h))

-- A refused call leaves the engine as it was.
pub refused_engine : (call : Call) (line : List ℕ) (e : Engine) → ((performed call line e).number ≡ 0 → ⊥) → (performed call line e).engine ≡ e
unfolding performed
refused_engine call line e = go (direction_of call)
  where
    go : (d : Direction) → ((meaning call (lent d line e)).number ≡ 0 → ⊥) → given_back d (meaning call (lent d line e)).left e ≡ e
    go Direction.presenting n = ap (λ (o : Outcome). given_back Direction.presenting o.left e) (gives_back call (lent Direction.presenting line e) n)
    go Direction.receiving n = ap (λ (o : Outcome). given_back Direction.receiving o.left e) (gives_back call (lent Direction.receiving line e) n)

-- What is pending at an end: nothing after a reply call that was not refused, and what was before after receiving and after a clock call.
abbrev pub pending_in : Engine → Effect
pending_in e = e.session.presenting.pending

pub none_pending : (time : ℕ) (bytes line : List ℕ) (e : Engine) → (performed (Call.reply time bytes) line e).number ≡ 0 → pending_in (performed (Call.reply time bytes) line e).engine ≡ Effect.Nothing
unfolding performed meaning take_reply
none_pending time bytes line e = either (λ (o : Outcome). o.number ≡ 0 → o.left.session.presenting.pending ≡ Effect.Nothing) (reply_refusal time bytes e.session) (lent Direction.presenting line e) _ (λ (k : ℕ) (z : suc k ≡ 0). absurd (omega arith)) (λ n z. refl)

pub received_pending : (time : ℕ) (bytes line : List ℕ) (e : Engine) → pending_in (performed (Call.receive time bytes) line e).engine ≡ pending_in e
unfolding performed
received_pending time bytes line e = ap (λ (p : Presenting). p.pending) (untouched (Call.receive time bytes) (lent Direction.receiving line e)).other_side

pub ticked_pending : (time : ℕ) (line : List ℕ) (e : Engine) → pending_in (performed (Call.clock time) line e).engine ≡ pending_in e
unfolding performed meaning clock
ticked_pending time line e = either (λ (o : Outcome). o.left.session.presenting.pending ≡ pending_in e) (clock_refusal time e.session.seen e.session.close) (lent Direction.presenting line e) _ (λ (k : ℕ). refl) (λ n. refl)

-- Receiving keeps the length of its line buffer.
pub line_kept : (time : ℕ) (bytes line : List ℕ) (e : Engine) → length (performed (Call.receive time bytes) line e).line ≡ length line
unfolding performed meaning receive
line_kept time bytes line e =
    let h = lent Direction.receiving line e in
    either (λ (o : Outcome). length o.left.line ≡ length line) _ h _ (λ (k : ℕ). refl)
    (λ n. length-sets (after_message time bytes h).line 0 (whole_reply (envelope_of bytes) (after_message time bytes h).session.receiving.reply) ∙ ap length (same_line time bytes h))
