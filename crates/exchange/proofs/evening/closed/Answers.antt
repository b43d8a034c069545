-- `closed`: the clock call, and the report of the session that it leaves.
use mathlib.Core.Path.{ap, ◌∙◌}
use mathlib.Core.List.{[]}
use Rattle.session.specs.Report.{report}
use Rattle.session.specs.Engine.{Performed}
use Rattle.exchange.specs.Evening.{side_of, closed_end, closed_side}
use Rattle.exchange.proofs.evening.closed.Goals as goal

pub returns : goal.returns
unfolding closed_side closed_end
returns c = c.side_of.ensures ∙ ap side_of (c.report.ensures ∙ ap (λ (t : Performed). report t.engine.session) (c.clock_call-turn.ensures []))
