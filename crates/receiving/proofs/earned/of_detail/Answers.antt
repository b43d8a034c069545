-- `of_detail`: the body is read, and the chain goes on from its code.
use mathlib.Core.Path.{◌≡◌, refl, ap, ◌∙◌}
use Prim.Native.Nat.{ℕ, ◌+◌}
use native.Mathlib.Omega.{arith}
use Rattle.codes.specs.Chain.{◌when◌, ◌orelse◌}
use Rattle.codes.specs.Body.{operation_of}
use Rattle.codes.specs.Code.{code_number}
use Rattle.document.specs.Amounts.{totals_of}
use Rattle.detail.specs.Groups.{documents}
use Rattle.session.specs.declared.running.Running.{Running}
use Rattle.session.specs.declared.effect.Effect.{Effect}
use Rattle.session.specs.Limits.{passes_lot}
use Rattle.session.specs.Running.{adding, documents_in}
use Rattle.session.specs.Sequence.{lot_sequence}
use Rattle.session.specs.Receiving.{detail_code, received_code, received_effect}
use Rattle.calls.proofs.Laws.Detail.{detail_chain, detail_adds_lem}
use Rattle.receiving.proofs.Laws.Earned.{stands_if}
use Rattle.receiving.proofs.earned.of_detail.Goals as goal

pub slice_bounds-read_detail-end : goal.slice_bounds-read_detail-end
slice_bounds-read_detail-end c =
    omega (arith, c.args.hearer.now.lent.represented, c.args.hearer.now.listed)

pub returns : goal.returns
unfolding received_code detail_code received_effect
returns c =
    let read = c.read_detail-read.result in
    let bytes = code_number read.code in
    let code = code_number c.detail_code.result in
    let place = lot_sequence c.args.hearer.now.receiving.ended c.args.hearer.now.receiving.counters.current in
    let operation = operation_of c.args.body.now in
    let meant = totals_of (documents c.args.body.now) in
    let told = c.read_detail-read.ensures.totals in
    let adds = c.adding-adds.ensures ∙ ap (λ (o : ℕ). adding o read.totals) c.operation_of.ensures in
    let rest : Running → ℕ = λ (more : Running). place orelse 12 when passes_lot (documents_in c.args.hearer.now.running + documents_in more) in
    let chain = c.detail_code.ensures ∙ ap (λ (more : Running). bytes orelse rest more) adds in
    record {
      code = chain ∙ detail_chain bytes place operation c.args.hearer.now.running read.totals meant told ∙ ap (λ (n : ℕ). n orelse rest (adding operation meant)) c.read_detail-read.ensures.code;
      effect = stands_if code (Effect.Detail c.adding-adds.result) (Effect.Detail (adding operation meant)) (λ (e : code ≡ 0). ap Effect.Detail (adds ∙ detail_adds_lem bytes place operation c.args.hearer.now.running read.totals meant told code chain e)) refl;
    }
