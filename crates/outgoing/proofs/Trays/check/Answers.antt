-- `check` gives 25 where a tray is refused.
use mathlib.Core.Path.{sym, ◌∙◌}
use Rattle.codes.specs.Chain.{◌when◌}
use Rattle.outgoing.proofs.Trays.check.Goals as goal

pub returns-then-not-good : goal.returns-then-not-good
unfolding ◌when◌
returns-then-not-good c = rw (sym c.good.ensures ∙ c.if-not-good.true)

pub returns : goal.returns
unfolding ◌when◌
returns c = rw (sym c.good.ensures ∙ c.if-not-good.false)
