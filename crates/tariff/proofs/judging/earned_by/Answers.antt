-- `earned_by` goes down the chain: 01, 03, 41.
use mathlib.Core.Path.{ap, sym, ◌∙◌}
use mathlib.Core.List.{map}
use Rattle.tariff.specs.Tariff.{row_in}
use Rattle.tariff.specs.Commission.{rule_of, is_known}
use Rattle.tariff.specs.Tray.{tariff_key}
use Rattle.tariff.proofs.Laws.Judged.{wrong_key, wrong_amount, unknown_key, nothing}
use Rattle.tariff.proofs.judging.earned_by.Goals as goal

pub returns-then-not-are_digits : goal.returns-then-not-are_digits
returns-then-not-are_digits c =
    wrong_key (map row_in c.args.tariff.now.rows.now) c.args.d.now (sym c.if-not-are_digits.ensures)

pub returns-then-not-amount_digits : goal.returns-then-not-amount_digits
returns-then-not-amount_digits c =
    wrong_amount (map row_in c.args.tariff.now.rows.now) c.args.d.now (sym c.if-not-are_digits.ensures) (sym c.if-not-amount_digits.ensures)

pub returns-then-is_none : goal.returns-then-is_none
unfolding tariff_key
returns-then-is_none c =
    let rows = map row_in c.args.tariff.now.rows.now in
    let rule = c.rule_of.ensures.rule ∙ ap (rule_of rows) (c.from-key.ensures ∙ c.number2.ensures) in
    unknown_key rows c.args.d.now (sym c.if-not-are_digits.ensures) (sym c.if-not-amount_digits.ensures) (ap is_known (sym rule) ∙ c.if-is_none.ensures)

pub returns : goal.returns
unfolding tariff_key
returns c =
    let rows = map row_in c.args.tariff.now.rows.now in
    let rule = c.rule_of.ensures.rule ∙ ap (rule_of rows) (c.from-key.ensures ∙ c.number2.ensures) in
    nothing rows c.args.d.now (sym c.if-not-are_digits.ensures) (sym c.if-not-amount_digits.ensures) (ap is_known (sym rule) ∙ c.if-is_none.ensures)
