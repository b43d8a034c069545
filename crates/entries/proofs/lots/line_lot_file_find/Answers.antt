-- `line_lot_file_find` shows what `find` answers.
use mathlib.Core.Path.{◌∙◌}
use Rattle.entries.proofs.lots.line_lot_file_find.Goals as goal

pub returns : goal.returns
returns c = c.find_shown.ensures ∙ c.find.ensures
