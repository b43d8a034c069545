-- `check`: the verdict.
use mathlib.Core.Path.{sym}
use Rattle.session.specs.Limits.{most_lots, most_lot_documents}
use Rattle.lot_file.proofs.Laws.Answers.{checked_wrong, checked_good}
use Rattle.lot_file.proofs.check.check.Goals as goal

pub returns-in-Some : goal.returns-in-Some
returns-in-Some c = sym (checked_good most_lots most_lot_documents c.args.file.now (sym c.in-Some.ensures.verdict))

pub returns-in-None : goal.returns-in-None
returns-in-None c = sym (checked_wrong most_lots most_lot_documents c.args.file.now (sym c.in-None.ensures.verdict))
