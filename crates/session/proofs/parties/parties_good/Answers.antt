-- `parties_good` makes the tests of the definition, in its order.
use Rattle.session.specs.Parties.{parties_good}
use Rattle.session.proofs.parties.parties_good.Goals as goal

pub returns : goal.returns
unfolding parties_good
returns c = cc
