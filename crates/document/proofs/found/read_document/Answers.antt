-- `read_document` puts together what the tests and the readings of amounts find.
use mathlib.Core.Path.{◌≡◌, ap, sym, ◌∙◌}
use mathlib.Core.Bool.{◌&&◌}
use lib.Dec.{ltb}
use native.Mathlib.Omega.{arith}
use Rattle.packed.proofs.Laws.Number.{number_grown}
use Rattle.amounts.specs.Totals.{totals}
use Rattle.document.specs.Amounts.{nominal, commission, for_something}
use Rattle.document.specs.Inner.Found.{found}
use Rattle.document.proofs.Laws.Fields.{fields_split, amounts_split}
use Rattle.document.proofs.found.read_document.Goals as goal

pub returns : goal.returns
unfolding nominal commission for_something
returns c =
    let d = c.args.d.now in
    let digits = c.all_digits-digits.ensures in
    let fields = (λ i. digits.fields i && c.values_good.ensures i) ∙ sym (fields_split c.args.operation c.args.receiving d) in
    let amounts = digits.amounts ∙ sym (amounts_split c.args.operation c.args.receiving d) in
    let grown = number_grown 43 4 d c.fits-d (omega arith) in record {
      found =
          λ i. record { fields = fields i; amounts = amounts i; served = c.drawee_served.ensures i; something = ltb 0 (c.number-nominal.ensures.value i); totals = totals 1 (c.number-nominal.ensures.value i) (c.number4-commission.ensures i) };
      bound =
          record { documents = omega arith; nominal = omega arith; commission = omega (arith, c.number4-commission.ensures, grown) };
    }
