-- `of_header`: a header that is read goes through the chain; any other body is 01.
use mathlib.Core.Path.{◌≡◌, refl, ap, sym, ◌∙◌}
use mathlib.Core.Bool.{Bool}
use Prim.Native.Nat.{ℕ}
use lib.Dec.{eqb}
use Rattle.packed.proofs.Laws.Every.{any_any}
use Rattle.codes.specs.Chain.{◌when◌, ◌orelse◌}
use Rattle.codes.specs.Code.{code_number}
use Rattle.codes.specs.Field.{table_numbers}
use Rattle.message.specs.declared.header.Header.{Header}
use Rattle.std.specs.Prelude.{Ok}
use Rattle.message.specs.declared.route.Route.{Route}
use Rattle.message.specs.Layout.{body_code, read_body}
use Rattle.message.specs.Header.{header, header_fields, header_of, header_values, header_said}
use Rattle.message.proofs.Laws.Reading.{told}
use Rattle.message.proofs.Laws.Header.{read_told}
use Rattle.session.specs.declared.counters.Lot.{Lot}
use Rattle.session.specs.declared.effect.Effect.{Effect}
use Rattle.session.specs.Limits.{lots_used}
use Rattle.session.specs.Hours.{receiver_late}
use Rattle.session.specs.Parties.{receiving_route}
use Rattle.session.specs.Sequence.{header_sequence}
use Rattle.session.specs.Receiving.{accepted_lots, number_used, header_code, received_code, received_effect}
use Rattle.receiving.proofs.Laws.Earned.{read_earns, stands_if, wrong_read, wrong_ends}
use Rattle.receiving.proofs.earned.of_header.Goals as goal

pub returns-in-Ok : goal.returns-in-Ok
unfolding received_code header_code received_effect
returns-in-Ok c =
    let body = c.args.body.now in
    let h = c.in-Ok.header in
    let route = receiving_route c.args.hearer.now.parties in
    let read : header_said route (Ok h) ≡ read_body (header route) body = ap (λ (x : Route). header_said x (Ok h)) (sym c.receiving_route.ensures) ∙ c.in-Ok.ensures ∙ ap (λ (x : Route). read_body (header x) body) c.receiving_route.ensures in
    let good = (told (body_code (header route) body) (table_numbers 1 (header_fields route) body) (header_values route h) read).0 in
    let place = header_sequence c.args.hearer.now.receiving.ended c.args.hearer.now.receiving.counters.current in
    let late : Header → ℕ = λ (x : Header). place orelse 10 when receiver_late c.args.time orelse 4 when number_used x.number (accepted_lots c.args.hearer.now.receiving) orelse 11 when lots_used c.args.hearer.now.receiving.counters.lots in
    let hour = c.when.ensures ∙ ap (λ (x : Bool). 10 when x) c.receiver_late.ensures in
    let used = c.when-in-Ok.ensures ∙ ap (λ (x : Bool). 4 when x) (c.number_used.ensures ∙ any_any (λ (l : Lot). eqb h.number l.number) (accepted_lots c.args.hearer.now.receiving)) in
    let most = c.when-in-Ok-2.ensures ∙ ap (λ (x : Bool). 11 when x) c.lots_used.ensures in
    let third = c.or_else.ensures ∙ (λ i. used i orelse most i) in
    let second = c.or_else-in-Ok.ensures ∙ (λ i. hour i orelse third i) in
    let chain : code_number c.or_else-in-Ok-2.result ≡ late h = c.or_else-in-Ok-2.ensures ∙ (λ i. c.header_sequence.ensures i orelse second i) in
    let earns = read_earns late (λ (x : Header). Effect.Header x.number) h (header_of body) (body_code (header route) body) (code_number c.or_else-in-Ok-2.result) (read_told route h body read) good chain in
    record { code = earns.0; effect = earns.1 }

pub returns-in-Err : goal.returns-in-Err
unfolding received_code header_code received_effect header_fields
returns-in-Err c =
    let body = c.args.body.now in
    let route = receiving_route c.args.hearer.now.parties in
    let x = c.in-Err.code in
    let told = wrong_read x (body_code (header c.receiving_route.result) body) _ _ c.in-Err.ensures in
    let wrong = ap (λ (y : Route). body_code (header y) body) (sym c.receiving_route.ensures) ∙ told.0 in
    record { code = wrong_ends (body_code (header route) body) (code_number x) _ (wrong, told.1); effect = stands_if (code_number x) Effect.Nothing _ (λ (e : code_number x ≡ 0). absurd (told.1 e)) refl }
