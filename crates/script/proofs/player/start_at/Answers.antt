-- `start_at`: by whether the start is refused.
use Rattle.std.proofs.Common.{sym, ◌∙◌}
use borrow.Author.Tests.{eq-eqb, ne_eqb}
use Rattle.script.specs.Player.{seat_of}
use Rattle.script.proofs.Laws.Player.{begun_there, begun_none}
use Rattle.script.proofs.player.start_at.Goals as goal

pub returns-then-number-eq0-clause-outcome : goal.returns-then-number-eq0-clause-outcome
returns-then-number-eq0-clause-outcome c =
    begun_there c.args.date c.args.own c.args.partner c.args.represented.now (seat_of c.args.seat) c.start-start.ensures.outcome (eq-eqb _ 0 (sym c.answer_number-number.ensures ∙ c.if-number-eq0.true)) c.begun.ensures

pub returns-clause-outcome : goal.returns-clause-outcome
returns-clause-outcome c =
    begun_none c.args.date c.args.own c.args.partner c.args.represented.now (seat_of c.args.seat) c.start-start.ensures.outcome (ne_eqb _ 0 (λ z. c.if-number-eq0.false (c.answer_number-number.ensures ∙ z)))
