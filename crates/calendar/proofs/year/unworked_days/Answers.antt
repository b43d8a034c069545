-- `unworked_days` hands out its list, which antt computes from the definition.
use mathlib.Core.Path.{refl}
use Rattle.packed.specs.Every.{member}
use Rattle.document.specs.Rules.{month_days}
use Rattle.calendar.specs.Rule.{from, later, those}
use Rattle.calendar.specs.Dates.{day_number}
use Rattle.calendar.specs.Year.{holidays, unworked2028}
use Rattle.calendar.proofs.year.unworked_days.Goals as goal

pub returns : goal.returns
unfolding unworked2028 later from those member holidays day_number month_days
returns c = refl
