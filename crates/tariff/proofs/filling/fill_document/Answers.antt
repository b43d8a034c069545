-- `fill_document` writes the commission that the key's rule gives, unless the key is 0.
use mathlib.Core.Path.{ap, sym, ◌∙◌}
use mathlib.Core.List.{map}
use Prim.Native.Nat.{ℕ}
use lib.Seq.{sets}
use Rattle.packed.specs.Writing.{packed_bytes}
use Rattle.document.specs.Amounts.{nominal, commission}
use Rattle.tariff.specs.Tariff.{row_in}
use Rattle.tariff.specs.Commission.{rule_of, due}
use Rattle.tariff.specs.Tray.{tariff_key, with_commission}
use Rattle.tariff.proofs.Laws.Filled.{kept_key, written_key}
use Rattle.tariff.proofs.filling.fill_document.Goals as goal

pub returns-then-key-ne0 : goal.returns-then-key-ne0
unfolding tariff_key nominal commission with_commission
returns-then-key-ne0 c =
    let d = c.args.d.now in
    let rows = map row_in c.args.tariff.now.rows.now in
    let key = c.from-key.ensures ∙ c.number2.ensures in
    let typed = c.from-typed.ensures ∙ c.number4.ensures in
    let rule = c.rule_of-rule.ensures.rule ∙ ap (rule_of rows) key in
    let worth = c.due.ensures ∙ (λ i. due (rule i) (c.number-nominal.ensures.value i) (typed i)) in
    c.put.ensures
    ∙ ap (λ (v : ℕ). sets d 43 (packed_bytes 4 v)) worth
    ∙ written_key rows d (λ e. c.if-key-ne0.true (key ∙ e))

pub returns-else-key-ne0 : goal.returns-else-key-ne0
unfolding tariff_key
returns-else-key-ne0 c =
    kept_key (map row_in c.args.tariff.now.rows.now) c.args.d.now (sym (c.from-key.ensures ∙ c.number2.ensures) ∙ c.if-key-ne0.false)
