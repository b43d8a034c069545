-- `line_compensation_date` shows what the calendar answers.
use mathlib.Core.Path.{ap, ◌∙◌}
use Rattle.calendar.specs.Shown.{shown}
use Rattle.entries.proofs.days.line_compensation_date.Goals as goal

pub returns : goal.returns
returns c = c.shown.ensures ∙ ap shown c.compensation_date.ensures
