-- `of_lot_total`: a total that is read goes through the chain; any other body has its own code.
use mathlib.Core.Path.{◌≡◌, refl, ap, ◌∙◌}
use mathlib.Core.Bool.{Bool, not}
use Prim.Native.Nat.{ℕ}
use Rattle.packed.proofs.Laws.Every.{any_any}
use Rattle.codes.specs.Chain.{◌when◌, ◌orelse◌}
use Rattle.codes.specs.Code.{code_number}
use Rattle.codes.specs.Field.{table_numbers}
use Rattle.amounts.specs.declared.Totals.{Totals}
use Rattle.amounts.specs.Totals.{same}
use Rattle.message.specs.declared.total.Total.{Total}
use Rattle.message.specs.Layout.{body_code}
use Rattle.message.specs.Total.{lot_total, lot_total_fields, total_of, total_values}
use Rattle.message.proofs.Laws.Reading.{told}
use Rattle.message.proofs.Laws.Total.{read_told}
use Rattle.session.specs.declared.counters.Lot.{Lot}
use Rattle.session.specs.declared.effect.Effect.{Effect}
use Rattle.session.specs.Running.{stated}
use Rattle.session.specs.Sequence.{lot_total_sequence}
use Rattle.session.specs.Receiving.{accepted_lots, totals_used, lot_total_code, received_code, received_effect}
use Rattle.receiving.proofs.Laws.Earned.{read_earns, stands_if, wrong_read, wrong_ends}
use Rattle.receiving.proofs.earned.of_lot_total.Goals as goal

pub returns-in-Ok : goal.returns-in-Ok
unfolding received_code lot_total_code received_effect
returns-in-Ok c =
    let body = c.args.body.now in
    let x = c.in-Ok.total in
    let read = c.in-Ok.ensures in
    let good = (told (body_code lot_total body) (table_numbers 1 lot_total_fields body) (total_values x) read).0 in
    let late : Total → ℕ = λ (y : Total). lot_total_sequence c.args.hearer.now.receiving.ended y.number c.args.hearer.now.receiving.counters.current c.args.hearer.now.running orelse 4 when totals_used y.stated (accepted_lots c.args.hearer.now.receiving) orelse 8 when not (same (stated c.args.hearer.now.running) y.stated) in
    let amounts = c.same.ensures ∙ ap (λ (y : Totals). same y x.stated) c.stated.ensures in
    let differ = c.when-in-Ok.ensures ∙ ap (λ (z : Bool). 8 when not z) amounts in
    let used = c.when.ensures ∙ ap (λ (z : Bool). 4 when z) (c.totals_used.ensures ∙ any_any (λ (l : Lot). same (stated l.gathered) x.stated) (accepted_lots c.args.hearer.now.receiving)) in
    let second = c.or_else.ensures ∙ (λ i. used i orelse differ i) in
    let chain : code_number c.or_else-in-Ok.result ≡ late x = c.or_else-in-Ok.ensures ∙ (λ i. c.lot_total_sequence.ensures i orelse second i) in
    let earns = read_earns late (λ (y : Total). Effect.LotTotal (record { number = y.number; gathered = c.args.hearer.now.running })) x (total_of lot_total_fields body) (body_code lot_total body) (code_number c.or_else-in-Ok.result) (read_told lot_total x body read) good chain in
    record { code = earns.0; effect = earns.1 }

pub returns-in-Err : goal.returns-in-Err
unfolding received_code lot_total_code received_effect lot_total_fields
returns-in-Err c =
    let body = c.args.body.now in
    let x = c.in-Err.code in
    let wrong = wrong_read x (body_code lot_total body) _ _ c.in-Err.ensures in
    record { code = wrong_ends (body_code lot_total body) (code_number x) _ wrong; effect = stands_if (code_number x) (Effect.LotTotal (record { number = 0; gathered = c.args.hearer.now.running })) _ (λ (e : code_number x ≡ 0). absurd (wrong.1 e)) refl }
