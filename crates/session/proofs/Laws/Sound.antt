-- The premise is kept: a start gives a sound session with empty running totals, and every call keeps both parts, whatever its arguments.
use mathlib.Core.Path.{◌≡◌, refl, sym, subst, ◌∙◌}
use mathlib.Core.Bool.{Bool, true, false, cond}
use mathlib.Core.List.{List}
use Prim.Native.Nat.{ℕ, suc, ◌*◌, ◌<◌}
use native.Mathlib.Omega.{arith}
use lib.Dec.{eqb}
use lib.ListN.{length, length-set, length-replicate}
use borrow.Author.Tests.{eqb-true}
use Rattle.std.specs.Prelude.{Option, Some}
use Rattle.message.specs.declared.envelope.Kind.{Kind}
use Rattle.message.specs.Envelope.{serial_of, body_of}
use Rattle.message.specs.Content.{content_of}
use Rattle.message.specs.Line.{whole_message}
use Rattle.message.proofs.Laws.Envelope.{serial_told}
use Rattle.message.specs.Limits.{largest_serial}
use Rattle.session.specs.declared.counters.Lot.{Lot}
use Rattle.session.specs.declared.counters.Course.{Course}
use Rattle.session.specs.declared.effect.Effect.{Effect}
use Rattle.session.specs.declared.parties.Parties.{Parties}
use Rattle.session.specs.declared.session.Close.{Close}
use Rattle.session.specs.declared.session.Session.{Session}
use Rattle.session.specs.Limits.{most_lot_documents, most_lots}
use Rattle.session.specs.Parties.{parties_good, parties_of, nobody, Direction}
use Rattle.session.specs.declared.running.Running.{Running}
use Rattle.session.specs.Running.{empty}
use Rattle.session.specs.Course.{advance, kept, course}
use Rattle.session.specs.Start.{no_lots, fresh, started, start}
use Rattle.session.specs.Outcome.{Held, Outcome, silent, held}
use Rattle.session.specs.Time.{clock_refusal}
use Rattle.session.specs.Sending.{posted, send_refusal, sent, send, Send, send_message, next_envelope}
use Rattle.session.specs.Receiving.{received_effect, earned_code, receiving_after, is_next, receive, receive_refusal, after_new, after_repeat, after_message}
use Rattle.session.specs.Reply.{reply_refusal, is_accepted, take_reply}
use Rattle.session.specs.Clock.{ticked, clock}
use Rattle.session.specs.Engine.{with_empty, Ready}
use Rattle.session.specs.Premise.{Fits, CountersSound, OpenSound, PartiesSound, Sound, Carried, PendingSound, PendingCarried}
use Rattle.session.proofs.Laws.Parties.{told as parties-told}
use Rattle.session.proofs.Laws.Decided.{either}
use Rattle.session.proofs.Laws.Refusals.{send_told, ReceiveTold, receive_told}
use Rattle.session.proofs.Laws.Allowed.{fits_gather, fits_empty, Allowed, send_allowed, received_allowed}

-- the premise of a call of a direction, of what it is lent
pub record Premise (d : Direction) (h : Held) : Type 0 where
  pub sound : Sound h.session
  pub carried : Carried d h.session h.running

-- a direction's counters with the running totals lent for it
pub record CourseSound (k : Course) : Type 0 where
  pub counters : CountersSound k.counters
  pub fits : Fits most_lot_documents k.running

-- counters that advance by what may be accepted stay sound
pub advanced : (effect : Effect) (accepted : Bool) (k : Course) → CourseSound k → (accepted ≡ true → Allowed effect k) → CourseSound (advance effect accepted k)
unfolding advance
advanced (Effect.Header n) true k s h =
    let a = h refl in
    record {
      counters = record { lots = s.counters.lots; open_lot = a.sound; gathered = s.counters.gathered };
      fits = fits_empty most_lot_documents;
    }
advanced (Effect.Detail more) true k s h =
    let a = h refl in
    record { counters = s.counters; fits = a.carried }
advanced (Effect.LotTotal lot) true k s h =
    let a = h refl in
    let room : OpenSound (Some lot.number) k.counters.lots = subst (λ (o : Option ℕ). OpenSound o k.counters.lots) a.sound s.counters.open_lot in
    let g = s.counters.gathered in
    let f : Fits most_lot_documents lot.gathered = subst (Fits most_lot_documents) (sym a.carried) s.fits in
    record {
      counters = record { lots = omega (arith, room.1); open_lot = tt; gathered = fits_gather (k.counters.lots * most_lot_documents) most_lot_documents (suc k.counters.lots * most_lot_documents) k.counters.gathered lot.gathered (omega (arith, g.documents, f.documents)) g f };
      fits = fits_empty most_lot_documents;
    }
advanced (Effect.LotTotal lot) false k s h =
    record {
      counters = record { lots = s.counters.lots; open_lot = tt; gathered = s.counters.gathered };
      fits = fits_empty most_lot_documents;
    }
advanced (Effect.Header n) false k s h = s
advanced (Effect.Detail more) false k s h = s
advanced Effect.SessionTotal accepted k s h = s
advanced Effect.Nothing accepted k s h = s

presenting_course_lem : (h : Held) → Premise Direction.presenting h → CourseSound (course h.session.presenting.counters h.running)
presenting_course_lem h g = record { counters = g.sound.presenting; fits = g.carried.fits }

receiving_course_lem : (h : Held) → Premise Direction.receiving h → CourseSound (course h.session.receiving.counters h.running)
receiving_course_lem h g = record { counters = g.sound.receiving; fits = g.carried.fits }

-- a send, by what its own code lets pass; each part of the premise for itself, for the calls that are lent no running totals
sent_sound : (time : ℕ) (effect : Effect) (s : Session) → Sound s → s.presenting.serial < largest_serial → PendingSound effect s.presenting.counters → Sound (sent time effect s)
sent_sound time effect s g more a = record { parties = g.parties; received = g.received; presenting = g.presenting; receiving = g.receiving; pending = a; places = g.places }

sent_carried : (time : ℕ) (effect : Effect) (s : Session) (t : Running) → Carried Direction.presenting s t → PendingCarried effect t → Carried Direction.presenting (sent time effect s) t
sent_carried time effect s t g a = record { fits = g.fits; pending = a }

module _ (time code : ℕ) (effect : Effect) (body : List ℕ) (h : Held) where
  abbrev bytes : List ℕ
  bytes = whole_message (next_envelope h.session) body

  pub send_sound : Sound h.session → (code ≡ 0 → PendingSound effect h.session.presenting.counters) → Sound (send time code effect body h).left.session
  unfolding send
  send_sound g a =
      either (λ (o : Outcome). Sound o.left.session) (send_refusal time code (length bytes) (length h.line) h.session) h (posted time effect body h)
      (λ (k : ℕ). g)
      (λ (e : send_refusal time code (length bytes) (length h.line) h.session ≡ 0). let known = send_told time code (length bytes) h e in sent_sound time effect h.session g known.more (a known.unstopped))

  pub send_carried : (t : Running) → Carried Direction.presenting h.session t → (code ≡ 0 → PendingCarried effect t) → Carried Direction.presenting (send time code effect body h).left.session t
  unfolding send
  send_carried t g a =
      either (λ (o : Outcome). Carried Direction.presenting o.left.session t) (send_refusal time code (length bytes) (length h.line) h.session) h (posted time effect body h)
      (λ (k : ℕ). g)
      (λ (e : send_refusal time code (length bytes) (length h.line) h.session ≡ 0). sent_carried time effect h.session t g (a (send_told time code (length bytes) h e).unstopped))

  -- the running totals stay
  send_running : (send time code effect body h).left.running ≡ h.running
  unfolding send
  send_running = either (λ (o : Outcome). o.left.running ≡ h.running) (send_refusal time code (length bytes) (length h.line) h.session) h (posted time effect body h) (λ (k : ℕ). refl) (λ (e : send_refusal time code (length bytes) (length h.line) h.session ≡ 0). refl)

  send_keeps : Premise Direction.presenting h → (code ≡ 0 → Allowed effect (course h.session.presenting.counters h.running)) → Premise Direction.presenting (send time code effect body h).left
  send_keeps g a =
      record {
        sound = send_sound g.sound (λ (e : code ≡ 0). (a e).sound);
        carried = subst (Carried Direction.presenting (send time code effect body h).left.session) (sym send_running) (send_carried h.running g.carried (λ (e : code ≡ 0). (a e).carried));
      }

pub send_message_keeps : (time : ℕ) (x : Send) (h : Held) → Premise Direction.presenting h → Premise Direction.presenting (send_message time x h).left
unfolding send_message
send_message_keeps time x h g = send_keeps time _ _ _ h g (send_allowed time x h g.carried.fits)

-- a reply, whatever code it brings
pub reply_keeps : (time : ℕ) (bytes : List ℕ) (h : Held) → Premise Direction.presenting h → Premise Direction.presenting (take_reply time bytes h).left
unfolding take_reply
reply_keeps time bytes h g =
    either (λ (o : Outcome). Premise Direction.presenting o.left) (reply_refusal time bytes h.session) h _
    (λ (k : ℕ). g)
    (λ (e : reply_refusal time bytes h.session ≡ 0).
    let p = h.session.presenting in
    let after = advanced p.pending (is_accepted bytes) (record { counters = p.counters; running = h.running }) (presenting_course_lem h g) (λ (t : is_accepted bytes ≡ true). record { sound = g.sound.pending; carried = g.carried.pending }) in
    record {
      sound = record { parties = g.sound.parties; received = g.sound.received; presenting = after.counters; receiving = g.sound.receiving; pending = tt; places = g.sound.places };
      carried = record { fits = after.fits; pending = tt };
    })

-- a message, whatever its bytes
kept_length : (effect : Effect) (accepted : Bool) (lots : ℕ) (places : List Lot) → length (kept effect accepted lots places) ≡ length places
unfolding kept
kept_length (Effect.LotTotal lot) true lots places = length-set places lots lot
kept_length (Effect.LotTotal lot) false lots places = refl
kept_length Effect.Nothing accepted lots places = refl
kept_length (Effect.Header number) accepted lots places = refl
kept_length (Effect.Detail more) accepted lots places = refl
kept_length Effect.SessionTotal accepted lots places = refl

handled_keeps : (time : ℕ) (bytes : List ℕ) (h : Held) → Premise Direction.receiving h → ReceiveTold bytes h → is_next bytes h.session.receiving.serial ≡ true → Premise Direction.receiving (after_new time (body_of bytes) h)
unfolding receiving_after
handled_keeps time bytes h g known next =
    let body = body_of bytes in
    let r = h.session.receiving in
    let code = earned_code time body h.session.parties h.running r in
    let effect = received_effect (content_of body) body h.running in
    let after = advanced effect (eqb code 0) (record { counters = r.counters; running = h.running }) (receiving_course_lem h g) (λ (t : eqb code 0 ≡ true). received_allowed time body h.session.parties h.running r g.carried.fits (content_of body) (eqb-true code 0 t)) in
    record {
      sound =
          record {
            parties = g.sound.parties;
            received = omega (arith, (serial_told Kind.Message bytes known.good).1, eqb-true (serial_of bytes) (suc r.serial) next);
            presenting = g.sound.presenting;
            receiving = after.counters;
            pending = g.sound.pending;
            places = kept_length effect (eqb code 0) r.counters.lots r.lots ∙ g.sound.places;
          };
      carried = record { fits = after.fits; pending = tt };
    }

pub receive_keeps : (time : ℕ) (bytes : List ℕ) (h : Held) → Premise Direction.receiving h → Premise Direction.receiving (receive time bytes h).left
unfolding receive
receive_keeps time bytes h g =
    either (λ (o : Outcome). Premise Direction.receiving o.left) (receive_refusal time bytes (length h.line) h.session) h _
    (λ (k : ℕ). g)
    (λ (e : receive_refusal time bytes (length h.line) h.session ≡ 0). same_good (after_message time bytes h) _ (go (is_next bytes h.session.receiving.serial) refl (receive_told time bytes h e)))
  where
    same_good : (a : Held) (line : List ℕ) → Premise Direction.receiving a → Premise Direction.receiving (record { session = a.session; running = a.running; line = line })
    same_good a line g = record { sound = g.sound; carried = g.carried }

    go : (t : Bool) → is_next bytes h.session.receiving.serial ≡ t → ReceiveTold bytes h → Premise Direction.receiving (cond t (after_new time (body_of bytes) h) (after_repeat time h))
    go true n known = handled_keeps time bytes h g known n
    go false n known =
        record {
          sound = record { parties = g.sound.parties; received = g.sound.received; presenting = g.sound.presenting; receiving = g.sound.receiving; pending = g.sound.pending; places = g.sound.places };
          carried = record { fits = g.carried.fits; pending = tt };
        }

-- a clock call, again each part for itself, and whatever running totals are carried
ticked_carried : (time : ℕ) (d : Direction) (s : Session) (t : Running) → Carried d s t → Carried d (ticked time s) t
ticked_carried time Direction.presenting s t g = record { fits = g.fits; pending = g.pending }
ticked_carried time Direction.receiving s t g = record { fits = g.fits; pending = tt }

module _ (time : ℕ) (h : Held) where
  abbrev ticking : Outcome
  ticking = silent (held (ticked time h.session) h.running h.line)

  pub clock_sound : Sound h.session → Sound (clock time h).left.session
  unfolding clock
  clock_sound g =
      either (λ (o : Outcome). Sound o.left.session) (clock_refusal time h.session.seen h.session.close) h ticking
      (λ (k : ℕ). g)
      (λ (e : clock_refusal time h.session.seen h.session.close ≡ 0). record { parties = g.parties; received = g.received; presenting = g.presenting; receiving = g.receiving; pending = g.pending; places = g.places })

  pub clock_carried : (d : Direction) (t : Running) → Carried d h.session t → Carried d (clock time h).left.session t
  unfolding clock
  clock_carried d t g =
      either (λ (o : Outcome). Carried d o.left.session t) (clock_refusal time h.session.seen h.session.close) h ticking
      (λ (k : ℕ). g)
      (λ (e : clock_refusal time h.session.seen h.session.close ≡ 0). ticked_carried time d h.session t g)

  clock_running : (clock time h).left.running ≡ h.running
  unfolding clock
  clock_running = either (λ (o : Outcome). o.left.running ≡ h.running) (clock_refusal time h.session.seen h.session.close) h ticking (λ (k : ℕ). refl) (λ (e : clock_refusal time h.session.seen h.session.close ≡ 0). refl)

  pub clock_keeps : (d : Direction) → Premise d h → Premise d (clock time h).left
  clock_keeps d g = record { sound = clock_sound g.sound; carried = subst (Carried d (clock time h).left.session) (sym clock_running) (clock_carried d h.running g.carried) }

-- a start that is not refused; what stands beside 24 is sound as well
pub fresh_sound : (parties : Parties) (close : Close) → PartiesSound parties → Sound (fresh parties close)
unfolding fresh
fresh_sound parties close p =
    let none : CountersSound no_lots = record { lots = omega arith; open_lot = tt; gathered = fits_empty 0 } in
    record { parties = p; received = omega arith; presenting = none; receiving = none; pending = tt; places = length-replicate {A = Lot} most_lots (record { number = 0; gathered = empty }) }

pub start_sound : (date own partner : ℕ) (represented : List ℕ) → Sound (start date own partner represented).session
unfolding start
start_sound date own partner represented = go (parties_good date own partner represented) refl
  where
    go : (t : Bool) → parties_good date own partner represented ≡ t → Sound (cond t (started date own partner represented) (fresh nobody Close.Forced))
    go true e = let p = parties-told date own partner represented e in fresh_sound (parties_of date own partner represented) Close.Open (record { date = p.date; own = p.own; partner = p.partner; represented = p.represented })
    go false e = fresh_sound nobody Close.Forced (record { date = omega arith; own = omega arith; partner = omega arith; represented = omega arith })

pub fresh_carried : (parties : Parties) (close : Close) (d : Direction) → Carried d (fresh parties close) empty
unfolding fresh
fresh_carried parties close Direction.presenting = record { fits = fits_empty most_lot_documents; pending = tt }
fresh_carried parties close Direction.receiving = record { fits = fits_empty most_lot_documents; pending = tt }

-- so whatever a start gives
pub begun : (date own partner : ℕ) (represented : List ℕ) → Ready (with_empty (start date own partner represented).session)
unfolding start
begun date own partner represented =
    let carried = go (parties_good date own partner represented) in
    record { sound = start_sound date own partner represented; presenting = carried Direction.presenting; receiving = carried Direction.receiving }
  where
    go : (t : Bool) (d : Direction) → Carried d (cond t (started date own partner represented) (fresh nobody Close.Forced)) empty
    go true d = fresh_carried (parties_of date own partner represented) Close.Open d
    go false d = fresh_carried nobody Close.Forced d
