use mathlib.Core.Path.{◌≡◌, refl, ap, ◌∙◌}
use Prim.Native.Nat.{ℕ, ◌-◌}
use native.Mathlib.Omega.{arith}
use lib.Seq.{sets}
use Rattle.lot_file.specs.Layout.{table_bytes, bytes_of}
use Rattle.lot_file.specs.Reading.{no_row}
use Rattle.lot_file.specs.Inner.Moving.{table_closed}
use Rattle.lot_file.proofs.Laws.Moving.{rows_down, row_cleared}
use Rattle.lot_file.proofs.moving.close_rows.Goals as goal

pub loop-i-init : goal.loop-i-init
unfolding table_closed
loop-i-init c = (omega arith, refl)

pub loop-i-preserved : goal.loop-i-preserved
loop-i-preserved c =
    let row = c.row_at-row.ensures in (
      omega (arith, row.documents),
      rows_down c.loop-i.file c.put_row.new.file c.row_at-row.result c.loop-i.i c.args.used c.loop-i.next (omega arith) (omega arith) row.row c.put_row.ensures ∙ c.loop-i.invariant.1,
    )

pub returns : goal.returns
returns c =
    let last : c.args.used - 1 ≡ c.loop-i.i = omega arith in
    row_cleared c.loop-i.file c.put_row-2.new.file c.loop-i.i c.args.used c.loop-i.next (omega arith)
    (c.put_row-2.ensures ∙ ap (λ (i : ℕ). sets c.loop-i.file (table_bytes i) (bytes_of no_row)) last)
    ∙ c.loop-i.invariant.1
