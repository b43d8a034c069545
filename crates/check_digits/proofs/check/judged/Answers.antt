-- `judged` gives the answer whose number is 43 unless what was keyed passes.
use Rattle.codes.specs.Chain.{◌when◌}
use Rattle.check_digits.proofs.check.judged.Goals as goal

pub returns-then-passes : goal.returns-then-passes
unfolding ◌when◌
returns-then-passes c = rw c.if-passes.true

pub returns-else-passes : goal.returns-else-passes
unfolding ◌when◌
returns-else-passes c = rw c.if-passes.false
