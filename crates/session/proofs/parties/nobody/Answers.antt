-- `nobody` has no represented entities, and eight empty places.
use mathlib.Core.Path.{refl}
use Rattle.session.specs.Parties.{padded}
use Rattle.session.proofs.parties.nobody.Goals as goal

pub returns : goal.returns
unfolding padded
returns c = refl
