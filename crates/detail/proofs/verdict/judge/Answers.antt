-- `judge` is the chain of 01, 03, 06 and 44.
use Rattle.codes.specs.Chain.{◌when◌, ◌orelse◌}
use Rattle.detail.proofs.verdict.judge.Goals as goal

pub returns-then-not-found-clause-code : goal.returns-then-not-found-clause-code
unfolding ◌when◌ ◌orelse◌
returns-then-not-found-clause-code c = rw (c.refused.ensures.0, c.if-not-found.true)

pub returns-then-not-found-2-clause-code : goal.returns-then-not-found-2-clause-code
unfolding ◌when◌ ◌orelse◌
returns-then-not-found-2-clause-code c = rw (c.refused-then-not-found-2.ensures.0, c.if-not-found.false, c.if-not-found-2.true)

pub returns-then-not-found-3-clause-code : goal.returns-then-not-found-3-clause-code
unfolding ◌when◌ ◌orelse◌
returns-then-not-found-3-clause-code c = rw (c.refused-then-not-found-3.ensures.0, c.if-not-found.false, c.if-not-found-2.false, c.if-not-found-3.true)

pub returns-then-not-found-4-clause-code : goal.returns-then-not-found-4-clause-code
unfolding ◌when◌ ◌orelse◌
returns-then-not-found-4-clause-code c = rw (c.refused-then-not-found-4.ensures.0, c.if-not-found.false, c.if-not-found-2.false, c.if-not-found-3.false, c.if-not-found-4.true)

pub returns-clause-code : goal.returns-clause-code
unfolding ◌when◌ ◌orelse◌
returns-clause-code c = rw (c.if-not-found.false, c.if-not-found-2.false, c.if-not-found-3.false, c.if-not-found-4.false)
