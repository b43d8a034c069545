-- `nothing`: nothing is held.
use Rattle.text.proofs.Laws.Held.{holds_nothing}
use Rattle.text.proofs.wire.nothing.Goals as goal

pub returns : goal.returns
returns c = holds_nothing
