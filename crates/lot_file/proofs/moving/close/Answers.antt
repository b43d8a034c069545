-- `close`: the table, then the bodies, which the table does not touch.
use mathlib.Core.Path.{ap, ◌∙◌}
use Prim.Native.Nat.{◌+◌, ◌*◌}
use native.Mathlib.Omega.{arith}
use Rattle.lot_file.specs.declared.row.Row.{Row}
use Rattle.lot_file.proofs.Laws.Moving.{closing, moved_down}
use Rattle.lot_file.proofs.moving.close.Goals as goal

pub returns : goal.returns
returns c =
    let r = c.row_at-start.result in
    let start = ap (λ (x : Row). x.start) c.row_at-start.ensures.row in
    let documents = ap (λ (x : Row). x.documents) c.row_at-start.ensures.row in
    c.copy_within.ensures.after
    ∙ moved_down c.close_rows.new.file r.start (r.start + r.documents * 51) c.args.end (omega arith) (omega (arith, c.requires.body)) (omega (arith, c.requires.room))
    ∙ closing c.args.file.now c.close_rows.new.file r c.args.place c.args.used c.args.end c.requires c.row_at-start.ensures.row c.close_rows.ensures
