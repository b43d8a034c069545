-- `refused_when`: the refusal's number where the test holds, else 0, in the code as in the definition.
use Rattle.codes.specs.Chain.{◌when◌}
use Rattle.calls.proofs.answer.refused_when.Goals as goal

pub returns-then-test : goal.returns-then-test
unfolding ◌when◌
returns-then-test c = rw c.if-test.true

pub returns : goal.returns
unfolding ◌when◌
returns c = rw c.if-test.false
