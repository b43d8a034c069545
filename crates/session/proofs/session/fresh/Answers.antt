-- `fresh` is written as the definition is.
use Rattle.session.specs.Start.{fresh}
use Rattle.session.proofs.session.fresh.Goals as goal

pub returns : goal.returns
unfolding fresh
returns c = cc
