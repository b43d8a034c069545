-- `read_whole`: the order of a reply test by test: the envelope, the way it goes, and then what its body is told to be.
use Rattle.std.proofs.Common.{◌≡◌, ℕ, Bool, not, true, List, sym, ap, subst, ◌∙◌, eqb, rules}
use Rattle.std.proofs.lemmas.Result.{err_from_is_err_and}
use Rattle.packed.specs.Part.{byte_at}
use Rattle.packed.specs.Number.{byte_value}
use Rattle.packed.proofs.Laws.Part.{part_tail}
use Rattle.codes.specs.Chain.{◌when◌}
use Rattle.message.specs.declared.envelope.Kind.{Kind}
use Rattle.message.specs.declared.envelope.Envelope.{Envelope}
use Rattle.message.specs.Limits.{envelope_bytes}
use Rattle.message.specs.Route.{same_route}
use Rattle.message.specs.Envelope.{envelope_of, envelope_good, body_of}
use Rattle.message.proofs.Laws.Envelope.{read_told, enough}
use Rattle.message.proofs.Laws.Reading.{number_told}
use Rattle.calls.specs.Inner.Arrival.{Told}
use Rattle.calls.proofs.Laws.Answer.{refusal_ends, none_leads_on}
use Rattle.calls.proofs.Laws.Arrival.{told_behind}
use Rattle.presenting.specs.Inner.Order.{of_body}
use Rattle.presenting.proofs.reply.read_whole.Goals as goal
use Rattle.presenting.proofs.reply.read_whole.Goals.{After-refused_when}

-- what the envelope tells, and the way it goes
read : (k : After-refused_when) → (envelope_good Kind.Reply k.args.reply.now ≡ true) × (k.in_ok-envelope.envelope ≡ envelope_of k.args.reply.now)
read k = read_told Kind.Reply k.args.reply.now k.in_ok-envelope.envelope k.in_ok-envelope.ensures

good : (k : After-refused_when) → 0 ≡ (21 when not (envelope_good Kind.Reply k.args.reply.now))
unfolding ◌when◌
good k = sym (ap (λ (b : Bool). 21 when not b) (read k).0)

way : (k : After-refused_when) → (33 when not k.same_route.result) ≡ (33 when not (same_route (envelope_of k.args.reply.now).route k.args.route))
way k = ap (λ (b : Bool). 33 when not b) (k.same_route.ensures ∙ ap (λ (e : Envelope). same_route e.route k.args.route) (read k).1)

pub returns-in_err-envelope : goal.returns-in_err-envelope
returns-in_err-envelope c =
    let p = err_from_is_err_and c.from_residual.result c.from_residual.ensures.1 in
    rw (p.1, p.2) (refusal_ends _ _ _ (sym (number_told _ _ _ c.in_err-envelope.ensures)))

pub returns-in_err-refused_when : goal.returns-in_err-refused_when
returns-in_err-refused_when c =
    let k = (goal.at.returns-in_err-refused_when c).After-refused_when in
    let r = c.from_residual-in_err-refused_when in
    let p = err_from_is_err_and r.result r.ensures.1 in
    rw (p.1, p.2) (refusal_ends _ _ _ (c.in_err-refused_when.ensures ∙ way k) ∙ none_leads_on _ _ (good k))

pub slice_bounds-read_body-count : goal.slice_bounds-read_body-count
slice_bounds-read_body-count c = enough Kind.Reply c.args.reply.now (read (goal.at.slice_bounds-read_body-count c).After-refused_when).0

pub slice_bounds-read_body-start : goal.slice_bounds-read_body-start
slice_bounds-read_body-start c = search (slice_bounds-read_body-count c, rules)

pub returns : goal.returns
returns c =
    let k = (goal.at.returns c).After-refused_when in
    let bytes = c.args.reply.now in
    let of-body : List ℕ → Envelope → Type 0 = λ (b : List ℕ) (e : Envelope). Told (of_body b e.serial c.args.p) (eqb (byte_value (byte_at 4 b)) 0) c.read_body.result in
    told_behind _ _ _ _ (good k)
    (told_behind _ _ _ _ (c.in_ok-refused_when.ensures ∙ way k)
    (subst (of-body (body_of bytes)) (read k).1
    (subst (λ (b : List ℕ). of-body b c.in_ok-envelope.envelope) (part_tail envelope_bytes bytes) c.read_body.ensures)))
