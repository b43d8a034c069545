-- `commission` goes down the chain: 42, 01, 41, and the commission.
use mathlib.Core.Path.{ap, sym, ◌∙◌}
use mathlib.Core.List.{List}
use Rattle.std.specs.Prelude.{Option, Err}
use Rattle.std.proofs.lemmas.Result.{err_from_is_err_and}
use Rattle.tariff.specs.declared.row.Row.{Row}
use Rattle.tariff.specs.declared.search.Rule.{Rule}
use Rattle.tariff.specs.Commission.{rule_of, is_known, due, commission_shown}
use Rattle.tariff.proofs.Laws.Read.{refused, taken, not_read, was_read}
use Rattle.tariff.proofs.Laws.Commission.{wrong_tariff, over_limits, unknown_key, given}
use Rattle.tariff.proofs.commission.commission.Goals as goal

pub returns-in_err-tariff : goal.returns-in_err-tariff
returns-in_err-tariff c =
    let p = err_from_is_err_and c.from_residual.result c.from_residual.ensures.1 in
    let r = refused c.read_tariff.result _ c.in_err-tariff.field-0.0 c.in_err-tariff.ensures.value in
    ap commission_shown (p.1 ∙ ap Err (p.2 ∙ r.1))
    ∙ wrong_tariff c.args.tariff.now c.args.key c.args.nominal c.args.typed (not_read c.args.tariff.now c.read_tariff.result c.read_tariff.ensures r.0)

pub returns-then-not-within_limits : goal.returns-then-not-within_limits
returns-then-not-within_limits c =
    let read = was_read c.args.tariff.now c.read_tariff.result c.in_ok-tariff.tariff c.read_tariff.ensures (taken c.read_tariff.result _ c.in_ok-tariff.tariff c.in_ok-tariff.ensures.value) in
    over_limits c.args.tariff.now c.args.key c.args.nominal c.args.typed read.0 (sym c.if-not-within_limits.ensures)

pub returns-in_err-rule : goal.returns-in_err-rule
returns-in_err-rule c =
    let p = err_from_is_err_and c.from_residual-in_err-rule.result c.from_residual-in_err-rule.ensures.1 in
    let r = refused c.rule_of.result _ c.in_err-rule.field-0.0 c.in_err-rule.ensures.value in
    let read = was_read c.args.tariff.now c.read_tariff.result c.in_ok-tariff.tariff c.read_tariff.ensures (taken c.read_tariff.result _ c.in_ok-tariff.tariff c.in_ok-tariff.ensures.value) in
    let rule = c.rule_of.ensures.rule ∙ ap (λ (rows : List Row). rule_of rows c.args.key) read.1 in
    ap commission_shown (p.1 ∙ ap Err (p.2 ∙ r.1))
    ∙ unknown_key c.args.tariff.now c.args.key c.args.nominal c.args.typed read.0 (sym c.if-not-within_limits.ensures) (ap is_known (sym rule ∙ r.0))

pub returns : goal.returns
returns c =
    let read = was_read c.args.tariff.now c.read_tariff.result c.in_ok-tariff.tariff c.read_tariff.ensures (taken c.read_tariff.result _ c.in_ok-tariff.tariff c.in_ok-tariff.ensures.value) in
    let known = taken c.rule_of.result _ c.in_ok-rule.rule c.in_ok-rule.ensures.value in
    let rule = c.rule_of.ensures.rule ∙ ap (λ (rows : List Row). rule_of rows c.args.key) read.1 in
    let worth = c.due.ensures ∙ ap (λ (o : Option Rule). due o c.args.nominal c.args.typed) (sym known ∙ rule) in
    (λ i. record { code = 0; commission = worth i })
    ∙ given c.args.tariff.now c.args.key c.args.nominal c.args.typed read.0 (sym c.if-not-within_limits.ensures) (ap is_known (sym rule ∙ known))
