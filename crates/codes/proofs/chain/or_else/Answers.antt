-- `or_else`: 0 leads on, any other number ends the chain.
use mathlib.Core.Path.{sym, ◌∙◌}
use native.Mathlib.Omega.{arith}
use borrow.Author.Tests.{eqb-true, eqb-false}
use Rattle.codes.specs.Code.{code_number}
use Rattle.codes.proofs.Laws.Chain.{ends, goes_on}
use Rattle.codes.proofs.chain.or_else.Goals as goal

pub returns-then-is_accepted : goal.returns-then-is_accepted
returns-then-is_accepted c =
    sym (goes_on (code_number c.args.first) (code_number c.args.rest) (eqb-true (code_number c.args.first) 0 (sym c.is_accepted.ensures ∙ c.if-is_accepted.true)))

pub returns-else-is_accepted : goal.returns-else-is_accepted
returns-else-is_accepted c =
    let other = eqb-false (code_number c.args.first) 0 (sym c.is_accepted.ensures ∙ c.if-is_accepted.false) in
    sym (ends (code_number c.args.first) (code_number c.args.rest) (omega (arith, other)))
