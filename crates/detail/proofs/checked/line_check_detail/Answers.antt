-- `line_check_detail`: an own number of more than 16 bits is above every entity, and refused.
use mathlib.Core.Path.{◌∙◌}
use native.Mathlib.Omega.{arith}
use Rattle.detail.proofs.Laws.Checked.{start_refused, own_too_large}
use Rattle.detail.proofs.checked.line_check_detail.Goals as goal

pub returns-in-Err : goal.returns-in-Err
returns-in-Err c =
    c.wrong_start.ensures ∙ start_refused c.args.own c.args.represented.now c.args.body.now (own_too_large c.args.own c.args.represented.now (omega arith))
