-- What one end writes is of one direction only: its messages go from own to partner, its replies answer what came from partner to own.
use mathlib.Core.Path.{◌≡◌, ap, sym, ◌∙◌}
use mathlib.Core.Bool.{true, false, false≢true}
use mathlib.Core.List.{List, []}
use Prim.Native.Nat.{ℕ, ◌<◌}
use native.Mathlib.Omega.{arith}
use Rattle.codes.specs.Field.{table_takes}
use Rattle.message.specs.declared.route.Route.{Route}
use Rattle.message.specs.declared.envelope.Kind.{Kind}
use Rattle.message.specs.declared.reply.Reply.{Reply}
use Rattle.message.specs.Limits.{largest_serial}
use Rattle.message.specs.Envelope.{envelope_fields, envelope_good, envelope_of, envelope_values}
use Rattle.message.specs.Reply.{written_reply_body}
use Rattle.message.specs.Line.{whole_message, whole_reply}
use Rattle.message.proofs.Laws.Envelope.{serial_told, in_range}
use Rattle.session.specs.declared.session.Session.{Session}
use Rattle.session.specs.Parties.{presenting_route, receiving_route}
use Rattle.session.specs.Sending.{next_envelope}
use Rattle.session.specs.Premise.{Sound}
use Rattle.session.proofs.Laws.Line.{message_no_reply, reply_no_message, route_told}

-- neither a message nor a reply of the direction
pub record Foreign (route : Route) (bytes : List ℕ) : Type 0 where
  pub no_message : envelope_good Kind.Message bytes ≡ true → (envelope_of bytes).route ≡ route → ⊥
  pub no_reply : envelope_good Kind.Reply bytes ≡ true → (envelope_of bytes).route ≡ route → ⊥

-- nothing written is nobody's
pub nothing_foreign : (route : Route) → Foreign route []
unfolding envelope_good
nothing_foreign route = record { no_message = λ (g : false ≡ true) (w : (envelope_of []).route ≡ route). false≢true g; no_reply = λ (g : false ≡ true) (w : (envelope_of []).route ≡ route). false≢true g }

module _ (s : Session) (sound : Sound s) where
  -- the next envelope can be written, and so can that of a reply to anything that came this way
  pub next_fits : s.presenting.serial < largest_serial → table_takes envelope_fields (envelope_values (next_envelope s)) ≡ true
  next_fits more = let p = sound.parties in in_range (next_envelope s) (omega (arith, p.date)) (omega (arith, p.own)) (omega (arith, p.partner)) (omega arith) (omega (arith, more))

  pub reply_fits : (bytes : List ℕ) → envelope_good Kind.Message bytes ≡ true → (envelope_of bytes).route ≡ receiving_route s.parties → table_takes envelope_fields (envelope_values (envelope_of bytes)) ≡ true
  reply_fits bytes good way =
      let p = sound.parties in
      let serial = serial_told Kind.Message bytes good in
      in_range (envelope_of bytes) (omega (arith, ap (λ (r : Route). r.date) way, p.date)) (omega (arith, ap (λ (r : Route). r.presenting) way, p.partner)) (omega (arith, ap (λ (r : Route). r.receiving) way, p.own)) serial.0 serial.1

  module _ (different : s.parties.own ≡ s.parties.partner → ⊥) where
    other_way : presenting_route s.parties ≡ receiving_route s.parties → ⊥
    other_way e = different (ap (λ (r : Route). r.presenting) e)

    pub message_foreign : (body : List ℕ) → s.presenting.serial < largest_serial → Foreign (receiving_route s.parties) (whole_message (next_envelope s) body)
    message_foreign body more =
        let bytes = whole_message (next_envelope s) body in
        record {
          no_message = λ (g : envelope_good Kind.Message bytes ≡ true) (w : (envelope_of bytes).route ≡ receiving_route s.parties). other_way (sym (route_told Kind.Message (next_envelope s) body (next_fits more)) ∙ w);
          no_reply = λ (g : envelope_good Kind.Reply bytes ≡ true) (w : (envelope_of bytes).route ≡ receiving_route s.parties). message_no_reply (next_envelope s) body g;
        }

    pub reply_foreign : (bytes : List ℕ) (r : Reply) → envelope_good Kind.Message bytes ≡ true → (envelope_of bytes).route ≡ receiving_route s.parties → Foreign (presenting_route s.parties) (whole_reply (envelope_of bytes) r)
    reply_foreign bytes r good way =
        let reply = whole_reply (envelope_of bytes) r in
        record {
          no_message = λ (g : envelope_good Kind.Message reply ≡ true) (w : (envelope_of reply).route ≡ presenting_route s.parties). reply_no_message (envelope_of bytes) r g;
          no_reply = λ (g : envelope_good Kind.Reply reply ≡ true) (w : (envelope_of reply).route ≡ presenting_route s.parties). other_way (sym w ∙ route_told Kind.Reply (envelope_of bytes) (written_reply_body r) (reply_fits bytes good way) ∙ way);
        }
