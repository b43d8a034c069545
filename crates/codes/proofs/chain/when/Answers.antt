-- `when`: the number where the test holds, else 0, in the code as in the definition.
use Rattle.codes.specs.Chain.{◌when◌}
use Rattle.codes.proofs.chain.when.Goals as goal

pub returns-then-test : goal.returns-then-test
unfolding ◌when◌
returns-then-test c = rw c.if-test.true

pub returns-else-test : goal.returns-else-test
unfolding ◌when◌
returns-else-test c = rw c.if-test.false
