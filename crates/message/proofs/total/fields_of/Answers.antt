-- `fields_of` reads the rows of the table; what is printed as a position is a place one less.
use mathlib.Core.Path.{ap, sym, ◌∙◌}
use Prim.Native.Nat.{ℕ}
use Rattle.packed.specs.Part.{part}
use Rattle.packed.specs.Number.{number}
use Rattle.amounts.specs.Totals.{totals}
use Rattle.message.specs.Inner.Widths.{total_fields}
use Rattle.message.proofs.Laws.Total.{nominal_at, commission_at}
use Rattle.message.proofs.total.fields_of.Goals as goal

pub returns : goal.returns
unfolding total_fields
returns c =
    let w = c.args.w in
    let at : ℕ → ℕ → ℕ = λ (width place : ℕ). number (part place width c.args.body.now) in
    let nominal = c.number.ensures.value ∙ ap (at w.nominal) (sym (nominal_at w)) in
    let commission = c.number-2.ensures.value ∙ ap (at w.commission) (sym (commission_at w)) in
    λ i. record { number = c.number2.ensures i; stated = totals (c.documents_of.ensures i) (nominal i) (commission i) }
