-- `of_session_total`: a total that is read goes through the chain; any other body has its own code.
use mathlib.Core.Path.{◌≡◌, refl, ap, ◌∙◌}
use mathlib.Core.Bool.{Bool, not, ◌&&◌}
use Prim.Native.Nat.{ℕ}
use lib.Dec.{eqb}
use Rattle.codes.specs.Chain.{◌when◌, ◌orelse◌}
use Rattle.codes.specs.Code.{code_number}
use Rattle.codes.specs.Field.{table_numbers}
use Rattle.amounts.specs.declared.Totals.{Totals}
use Rattle.amounts.specs.Totals.{same}
use Rattle.message.specs.declared.total.Total.{Total}
use Rattle.message.specs.Layout.{body_code}
use Rattle.message.specs.Total.{session_total, session_total_fields, total_of, total_values}
use Rattle.message.proofs.Laws.Reading.{told}
use Rattle.message.proofs.Laws.Total.{read_told}
use Rattle.session.specs.declared.effect.Effect.{Effect}
use Rattle.session.specs.Running.{stated}
use Rattle.session.specs.Sequence.{session_total_sequence}
use Rattle.session.specs.Receiving.{session_total_code, received_code, received_effect}
use Rattle.receiving.proofs.Laws.Earned.{read_earns, stands_if, wrong_read, wrong_ends}
use Rattle.receiving.proofs.earned.of_session_total.Goals as goal

pub returns-in-Ok : goal.returns-in-Ok
unfolding received_code session_total_code received_effect
returns-in-Ok c =
    let body = c.args.body.now in
    let x = c.in-Ok.total in
    let read = c.in-Ok.ensures in
    let good = (told (body_code session_total body) (table_numbers 1 session_total_fields body) (total_values x) read).0 in
    let late : Total → ℕ = λ (y : Total). session_total_sequence c.args.hearer.now.receiving.ended c.args.hearer.now.receiving.counters.current orelse 8 when not (eqb c.args.hearer.now.receiving.counters.lots y.number && same (stated c.args.hearer.now.receiving.counters.gathered) y.stated) in
    let amounts = c.same-same.ensures ∙ ap (λ (y : Totals). same y x.stated) c.stated.ensures in
    let differ = c.when.ensures ∙ ap (λ (z : Bool). 8 when not (eqb c.args.hearer.now.receiving.counters.lots x.number && z)) amounts in
    let chain : code_number c.or_else.result ≡ late x = c.or_else.ensures ∙ (λ i. c.session_total_sequence.ensures i orelse differ i) in
    let earns = read_earns late (λ (y : Total). Effect.SessionTotal) x (total_of session_total_fields body) (body_code session_total body) (code_number c.or_else.result) (read_told session_total x body read) good chain in
    record { code = earns.0; effect = earns.1 }

pub returns-in-Err : goal.returns-in-Err
unfolding received_code session_total_code received_effect session_total_fields
returns-in-Err c =
    let body = c.args.body.now in
    let x = c.in-Err.code in
    let wrong = wrong_read x (body_code session_total body) _ _ c.in-Err.ensures in
    record { code = wrong_ends (body_code session_total body) (code_number x) _ wrong; effect = stands_if (code_number x) (Effect.SessionTotal) _ (λ (e : code_number x ≡ 0). absurd (wrong.1 e)) refl }
