-- `both_directions`: one direction, the ends exchanged, and the other on what the first left.
use mathlib.Core.Path.{ap, ◌∙◌}
use Rattle.exchange.specs.Course.{across, direction_made, both_directions}
use Rattle.exchange.proofs.evening.both_directions.Goals as goal

pub returns : goal.returns
unfolding both_directions
returns c =
    c.present.ensures ∙ ap (direction_made c.args.other.presentations.now c.args.other.returns.now) (c.across.ensures _ _ ∙ ap across c.present-first.ensures)
