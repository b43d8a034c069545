-- `one_more`: `round` at the opening, told of both ends at once.
use mathlib.Core.Path.{ap}
use Rattle.exchange.specs.Course.{ends_after, round_made}
use Rattle.exchange.proofs.progress.one_more.Goals as goal

pub returns : goal.returns
unfolding round_made
returns c = ap ends_after c.round.ensures
