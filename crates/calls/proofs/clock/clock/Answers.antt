-- `clock`: the clock refuses, or the session is the ticked one.
use Rattle.std.proofs.Common.{◌≡◌, refl, sym, ap, ◌∙◌}
use Rattle.codes.specs.Answer.{answer_number}
use Rattle.codes.proofs.Laws.Refusal.{never_none}
use Rattle.session.specs.Outcome.{silent, held}
use Rattle.session.specs.Time.{clock_refusal}
use Rattle.session.specs.Clock.{ticked, clock}
use Rattle.calls.proofs.Laws.Said.{said_done, said_refused}
use Rattle.calls.proofs.clock.clock.Goals as goal

pub returns-clause-outcome : goal.returns-clause-outcome
unfolding clock
returns-clause-outcome c =
    let s = c.args.session in
    let time = c.args.time in
    λ t line. (λ i. record { number = ap answer_number c.in_default.is i; written = 0; left = held (c.ticked.ensures i) t line }) ∙ said_done 0 (clock_refusal time s.seen s.close) (held s t line) (silent (held (ticked time s) t line)) c.in_default.ensures refl

pub returns-in-Err-clause-outcome : goal.returns-in-Err-clause-outcome
unfolding clock
returns-in-Err-clause-outcome c =
    let s = c.args.session in
    let answer = answer_number c.clock_refusal-answer.result in
    let some : answer ≡ 0 → ⊥ = λ e. never_none c.in-Err.field-0 (sym (ap answer_number c.in-Err.is) ∙ e) in
    λ t line. said_refused answer (clock_refusal c.args.time s.seen s.close) (held s t line) (silent (held (ticked c.args.time s) t line)) c.clock_refusal-answer.ensures some
