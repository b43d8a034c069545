-- `values_good` tests each rule of the table in turn.
use mathlib.Core.Path.{ap, sym, ◌∙◌}
use mathlib.Core.Bool.{◌&&◌}
use Rattle.codes.specs.Field.{exactly}
use Rattle.document.specs.Rules.{identification, day_and_month, province, truncation, key_or_reason}
use Rattle.document.proofs.Laws.Fields.{values_listed}
use Rattle.document.proofs.rules.values_good.Goals as goal

pub returns : goal.returns
returns c =
    let id = c.identification.ensures ∙ ap identification c.number2.ensures in
    let date = c.day_and_month.ensures ∙ ap day_and_month c.number2-2.ensures in
    let taker = c.province.ensures ∙ ap province c.number.ensures.value in
    let receiving = ap (exactly c.args.receiving) c.number2-3.ensures in
    let claims = c.province-2.ensures ∙ ap province c.number-2.ensures.value in
    let form = c.truncation.ensures ∙ ap truncation c.number-3.ensures.value in
    let key = c.key_or_reason.ensures ∙ ap (key_or_reason c.args.operation) c.number2-4.ensures in
    (λ i. id i && date i && taker i && receiving i && claims i && form i && key i) ∙ sym (values_listed c.args.operation c.args.receiving c.args.d.now)
