-- `put_decimal` copies the fewest digits of its value, which are its decimal text.
use Rattle.std.proofs.Common.{ℕ, ◌+◌, length, ap, ◌∙◌}
use Rattle.std.proofs.Math.Seq.{sets}
use Rattle.decimal.proofs.Laws.Decimal.{decimal_fewest}
use Rattle.decimal.proofs.put_decimal.Goals as goal

pub returns-clause-written : goal.returns-clause-written
returns-clause-written c =
    let d = c.decimal-count in
    c.copy.ensures ∙ ap (sets c.args.line.now c.args.at) (d.ensures.digits ∙ decimal_fewest d.result c.args.value d.ensures.len)

pub returns-clause-next : goal.returns-clause-next
returns-clause-next c =
    let d = c.decimal-count in
    ap (λ (n : ℕ). c.args.at + n) (d.ensures.in_bounds.1 ∙ ap length (d.ensures.digits ∙ decimal_fewest d.result c.args.value d.ensures.len))
