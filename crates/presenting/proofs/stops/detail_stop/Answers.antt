-- `detail_stop`: the part is read, and the chain goes on from its code.
use mathlib.Core.Path.{◌≡◌, ap, ◌∙◌}
use Prim.Native.Nat.{ℕ, ◌+◌}
use Rattle.codes.specs.Chain.{◌when◌, ◌orelse◌}
use Rattle.codes.specs.Code.{code_number}
use Rattle.packed.specs.Writing.{packed_byte}
use Rattle.document.specs.Amounts.{totals_of}
use Rattle.document.specs.Part.{documents_of}
use Rattle.session.specs.declared.running.Running.{Running}
use Rattle.session.specs.Limits.{passes_lot}
use Rattle.session.specs.Running.{adding, documents_in}
use Rattle.session.specs.Sequence.{lot_sequence}
use Rattle.session.specs.Sending.{detail_stop}
use Rattle.calls.proofs.Laws.Detail.{detail_chain, detail_adds_lem}
use Rattle.presenting.proofs.stops.detail_stop.Goals as goal

pub returns : goal.returns
unfolding detail_stop
returns c =
    let read = c.read_part-read.result in
    let bytes = code_number read.code in
    let place = lot_sequence c.args.p.ended c.args.p.counters.current in
    let operation = packed_byte c.args.operation in
    let meant = totals_of (documents_of c.args.part.now) in
    let told = c.read_part-read.ensures.totals in
    let adds = c.adding-adds.ensures ∙ ap (λ (o : ℕ). adding o read.totals) c.packed_byte.ensures in
    let rest : Running → ℕ = λ (more : Running). place orelse 12 when passes_lot (documents_in c.args.running + documents_in more) in
    let code = c.detail_code.ensures ∙ ap (λ (more : Running). bytes orelse rest more) adds in record {
      code =
          code ∙ detail_chain bytes place operation c.args.running read.totals meant told ∙ ap (λ (n : ℕ). n orelse rest (adding operation meant)) c.read_part-read.ensures.code;
      adds =
          λ (e : code_number c.detail_code.result ≡ 0). adds ∙ detail_adds_lem bytes place operation c.args.running read.totals meant told (code_number c.detail_code.result) code e;
    }
