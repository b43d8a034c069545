-- `handle`: what the message earns, and what that does to the direction.
use mathlib.Core.Path.{◌≡◌, sym, ap, subst, ◌∙◌}
use mathlib.Core.Bool.{Bool, ◌||◌}
use Prim.Native.Nat.{ℕ, suc, ◌+◌}
use native.Mathlib.Omega.{arith}
use lib.Dec.{eqb}
use Rattle.codes.specs.Code.{code_number, code_numbered}
use Rattle.codes.proofs.Laws.Code.{number_told}
use Rattle.message.specs.declared.content.Content.{Content}
use Rattle.message.specs.Content.{content_of}
use Rattle.message.specs.Reply.{operation_for}
use Rattle.session.specs.declared.counters.Course.{Course}
use Rattle.session.specs.Course.{course, advance, ends, kept}
use Rattle.session.specs.Receiving.{received_code, received_effect, receiving_after}
use Rattle.calls.specs.Inner.Course.{Countable}
use Rattle.receiving.specs.Inner.Earned.{Earns}
use Rattle.receiving.proofs.Laws.Earned.{alike, countable, free_place}
use Rattle.receiving.proofs.handling.handle.Goals as goal
use Rattle.receiving.proofs.handling.handle.Goals.{After-is_accepted-accepted}

-- what was found is what the body earns
found_so : (k : goal.After-is_accepted-accepted) → Earns (content_of k.args.body.now) k.args.time k.args.body.now k.args.hearer.now.parties k.args.hearer.now.running k.args.hearer.now.receiving k.earned-found.result
found_so k = subst (λ (x : Content). Earns x k.args.time k.args.body.now k.args.hearer.now.parties k.args.hearer.now.running k.args.hearer.now.receiving k.earned-found.result) k.content_of-content.ensures k.earned-found.ensures

-- and may be counted
may : (k : goal.After-is_accepted-accepted) → Countable k.earned-found.result.effect k.is_accepted-accepted.result (course k.args.hearer.now.receiving.counters k.args.hearer.now.running)
may k =
    let found = k.earned-found.result in
    let e = found_so k in
    subst (λ (x : Bool). Countable found.effect x (course k.args.hearer.now.receiving.counters k.args.hearer.now.running)) (sym k.is_accepted-accepted.ensures) (countable k.args.time k.args.body.now k.args.hearer.now.parties k.args.hearer.now.running k.args.hearer.now.receiving (code_number found.code) found.effect k.args.hearer.now.lent e.code e.effect)

pub advance-after-requires : goal.advance-after-requires
advance-after-requires c = may (goal.at.advance-after-requires c).After-is_accepted-accepted

pub kept-requires : goal.kept-requires
kept-requires c =
    free_place c.earned-found.result.effect c.is_accepted-accepted.result (course c.args.hearer.now.receiving.counters c.args.hearer.now.running) (may (goal.at.kept-requires c).After-is_accepted-accepted)

pub returns : goal.returns
unfolding receiving_after
returns c =
    let body = c.args.body.now in
    let r = c.args.hearer.now.receiving in
    let found = c.earned-found.result in
    let e = found_so (goal.at.returns c).After-is_accepted-accepted in
    let code = received_code (content_of body) c.args.time body c.args.hearer.now.parties c.args.hearer.now.running r in
    let meant = received_effect (content_of body) body c.args.hearer.now.running in
    let here = course r.counters c.args.hearer.now.running in
    let accepted = c.is_accepted-accepted.ensures in
    let same = alike (eqb (code_number found.code) 0) found.effect meant e.effect in
    let told = ap (λ (n : ℕ). eqb n 0) e.code in
    let one_more : r.serial + 1 ≡ suc r.serial = omega arith in
    let operation = c.operation_for.ensures ∙ ap operation_for c.content_of-content.ensures in
    let kept-code = sym (number_told found.code) ∙ ap code_numbered e.code in
    let moved = c.advance-after.ensures ∙ ap (λ (x : Bool). advance found.effect x here) accepted ∙ same.moves here ∙ ap (λ (x : Bool). advance meant x here) told in
    let ended = c.ends.ensures ∙ ap (ends found.effect) accepted ∙ same.ends_so ∙ ap (ends meant) told in
    let places = c.kept.ensures ∙ ap (λ (x : Bool). kept found.effect x r.counters.lots r.lots) accepted ∙ same.keeps_so r.counters.lots r.lots ∙ ap (λ (x : Bool). kept meant x r.counters.lots r.lots) told in
    record { receiving = λ i. record { serial = one_more i; reply = record { operation = operation i; code = kept-code i }; counters = (moved i).counters; ended = r.ended || ended i; lots = places i }; running = ap (λ (x : Course). x.running) moved }
