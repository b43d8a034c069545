use mathlib.Core.Path.{refl, ap, sym, ◌∙◌}
use mathlib.Core.List.{map}
use Prim.Native.Nat.{ℕ, ◌+◌, ◌-◌, ◌*◌}
use native.Mathlib.Omega.{arith}
use borrow.Rule.Slice.PartMut.{put_mid}
use Rattle.document.specs.Limits.{document_bytes}
use Rattle.tariff.specs.Tariff.{row_in}
use Rattle.tariff.proofs.Laws.Filled.{filled_from, from_start, to_end, same_tray_length, one_filled}
use Rattle.tariff.proofs.filling.fill.Goals as goal

pub loop-place-init : goal.loop-place-init
loop-place-init c = (refl, from_start (map row_in c.args.tariff.now.rows.now) c.args.tray.now)

pub loop-place-preserved : goal.loop-place-preserved
loop-place-preserved c =
    let t = c.loop-place in
    let rows = map row_in c.args.tariff.now.rows.now in
    let at = t.place * document_bytes in
    let d = c.fill_document.new.d in (
      same_tray_length rows at t.tray d c.fill_document.ensures ∙ t.invariant.0,
      ap (λ (k : ℕ). filled_from rows k (put_mid at (at + document_bytes - at) t.tray d)) {x = (t.place + 1) * document_bytes} {y = at + document_bytes} (omega arith)
          ∙ one_filled rows at t.tray d c.fill_document.ensures (omega arith)
          ∙ t.invariant.1,
    )

pub returns : goal.returns
returns c =
    let t = c.loop-place in
    sym (to_end (map row_in c.args.tariff.now.rows.now) (t.place * document_bytes) t.tray (omega arith)) ∙ t.invariant.1
