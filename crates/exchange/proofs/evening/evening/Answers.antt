-- `evening`: both directions from the beginning, and what the two ends then show.
use Rattle.exchange.proofs.Laws.Evening.{shows}
use Rattle.exchange.proofs.evening.evening.Goals as goal

pub returns : goal.returns
returns c =
    shows c.args.near.presentations.now c.args.near.returns.now c.args.far.presentations.now c.args.far.returns.now c.started.ensures c.started-2.ensures c.both_directions-last.ensures c.closed.ensures c.closed-2.ensures
