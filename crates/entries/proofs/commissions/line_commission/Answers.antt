-- `line_commission` shows what the tariff answers.
use mathlib.Core.Path.{◌∙◌}
use Rattle.entries.proofs.commissions.line_commission.Goals as goal

pub returns : goal.returns
returns c = c.commission_shown.ensures ∙ c.commission.ensures
