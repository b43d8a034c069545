-- `day_and_month`: the code's table is the definition's, with no day past its end.
use Rattle.std.proofs.Common.{◌≡◌, ℕ, ◌/◌, ◌%◌, ap, ◌∙◌, get_or, rules}
use Rattle.codes.specs.Field.{between}
use Rattle.document.specs.Rules.{month_days}
use Rattle.document.proofs.rules.day_and_month.Goals as goal

pub returns : goal.returns
unfolding month_days
returns c =
    let days : c.unwrap_or-days.result ≡ get_or month_days (c.args.v % 100) 0 = search rules in
    let kept : c.contains.result ≡ between 1 c.unwrap_or-days.result (c.args.v / 100) = search rules in
    kept ∙ ap (λ (most : ℕ). between 1 most (c.args.v / 100)) days
