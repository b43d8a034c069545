-- What a call that is not refused tells: every test of its chain passed.
use mathlib.Core.Path.{◌≡◌, refl}
use mathlib.Core.Bool.{Bool, true, false, false≢true}
use mathlib.Core.List.{List}
use Prim.Native.Nat.{ℕ, ◌≤◌, ◌<◌}
use lib.Dec.{eqb, leb, lit<}
use lib.ListN.{length}
use borrow.Author.Tests.{leb-false, ltb-false, eqb-true}
use Rattle.packed.proofs.Laws.Told.{three}
use Rattle.codes.specs.Body.{operation_of}
use Rattle.codes.proofs.Laws.Chain.{none_test, none_both, passed, none_held, held}
use Rattle.message.specs.declared.envelope.Kind.{Kind}
use Rattle.message.specs.Limits.{largest_serial, reply_room}
use Rattle.message.specs.Route.{same_route}
use Rattle.message.specs.Envelope.{serial_of, envelope_good, envelope_of, body_of}
use Rattle.message.specs.Reply.{operation_byte, reply_good}
use Rattle.message.proofs.Laws.Route.{same}
use Rattle.session.specs.declared.session.Session.{Session}
use Rattle.session.specs.Parties.{presenting_route, receiving_route}
use Rattle.session.specs.Outcome.{Held, no_room}
use Rattle.session.specs.Time.{time_refusal}
use Rattle.session.specs.Sending.{is_pending, send_refusal}
use Rattle.session.specs.Receiving.{is_last, is_next, is_expected, receive_refusal}
use Rattle.session.specs.Reply.{awaited_operation, is_awaited, reply_refusal}

pub record SendTold (code bytes : ℕ) (h : Held) : Type 0 where
  pub idle : is_pending h.session.presenting.pending ≡ false
  pub more : h.session.presenting.serial < largest_serial
  pub unstopped : code ≡ 0
  pub room : bytes ≤ length h.line

pub send_told : (time code bytes : ℕ) (h : Held) → send_refusal time code bytes (length h.line) h.session ≡ 0 → SendTold code bytes h
unfolding send_refusal
send_told time code bytes h e =
    let p = h.session.presenting in
    let clock = none_both (time_refusal time h.session.seen h.session.close) _ e in
    let idle = passed 34 (is_pending p.pending) _ (lit< tt) clock.1 in
    let used = passed 36 (leb largest_serial p.serial) _ (lit< tt) idle.1 in
    let own = none_both code _ used.1 in
    record { idle = idle.0; more = leb-false largest_serial p.serial used.0; unstopped = own.0; room = ltb-false (length h.line) bytes (none_test 23 (no_room bytes (length h.line)) (lit< tt) own.1) }

-- a message that is expected and is not the next one is the last again
pub last_told : (bytes : List ℕ) (last : ℕ) → is_next bytes last ≡ false → is_expected bytes last ≡ true → serial_of bytes ≡ last
last_told bytes last n e = go (is_last bytes last) refl
  where
    go : (t : Bool) → is_last bytes last ≡ t → serial_of bytes ≡ last
    go true l = eqb-true (serial_of bytes) last l
    go false l = absurd (false≢true (simp (l, n) at e))

pub record ReceiveTold (bytes : List ℕ) (h : Held) : Type 0 where
  pub good : envelope_good Kind.Message bytes ≡ true
  pub way : (envelope_of bytes).route ≡ receiving_route h.session.parties
  pub known : is_expected bytes h.session.receiving.serial ≡ true
  pub room : reply_room ≤ length h.line

pub receive_told : (time : ℕ) (bytes : List ℕ) (h : Held) → receive_refusal time bytes (length h.line) h.session ≡ 0 → ReceiveTold bytes h
unfolding receive_refusal
receive_told time bytes h e =
    let good = envelope_good Kind.Message bytes in
    let way = same_route (envelope_of bytes).route (receiving_route h.session.parties) in
    let known = is_expected bytes h.session.receiving.serial in
    let clock = none_both (time_refusal time h.session.seen h.session.close) _ e in
    let first = held 21 good _ (lit< tt) clock.1 in
    let second = held 33 way _ (lit< tt) first.1 in
    let third = held 35 known _ (lit< tt) second.1 in
    record {
      good = first.0;
      way = same (envelope_of bytes).route (receiving_route h.session.parties) second.0;
      known = third.0;
      room = ltb-false (length h.line) (reply_room) (none_test 23 (no_room (reply_room) (length h.line)) (lit< tt) third.1);
    }

pub record ReplyTold (bytes : List ℕ) (s : Session) : Type 0 where
  pub good : envelope_good Kind.Reply bytes ≡ true
  pub way : (envelope_of bytes).route ≡ presenting_route s.parties
  pub awaited : is_pending s.presenting.pending ≡ true
  pub serial : serial_of bytes ≡ s.presenting.serial

pub reply_told : (time : ℕ) (bytes : List ℕ) (s : Session) → reply_refusal time bytes s ≡ 0 → ReplyTold bytes s
unfolding reply_refusal is_awaited
reply_told time bytes s e =
    let p = s.presenting in
    let good = envelope_good Kind.Reply bytes in
    let way = same_route (envelope_of bytes).route (presenting_route s.parties) in
    let clock = none_both (time_refusal time s.seen s.close) _ e in
    let first = held 21 good _ (lit< tt) clock.1 in
    let second = held 33 way _ (lit< tt) first.1 in
    let third = held 22 (reply_good (body_of bytes)) _ (lit< tt) second.1 in
    let awaited = is_awaited (serial_of bytes) (operation_of (body_of bytes)) p in
    let all = three (is_pending p.pending) (eqb (serial_of bytes) p.serial) (eqb (operation_of (body_of bytes)) (operation_byte (awaited_operation p.pending))) (none_held 35 awaited (lit< tt) third.1) in
    record { good = first.0; way = same (envelope_of bytes).route (presenting_route s.parties) second.0; awaited = all.0; serial = eqb-true (serial_of bytes) p.serial all.1 }
