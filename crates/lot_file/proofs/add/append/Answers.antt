-- `append`: the row, then the body.
use mathlib.Core.Path.{ap, ◌∙◌}
use mathlib.Core.List.{List}
use Prim.Native.Nat.{ℕ}
use lib.Seq.{sets}
use Rattle.lot_file.specs.Inner.Moving.{appended}
use Rattle.lot_file.proofs.add.append.Goals as goal

pub returns : goal.returns
unfolding appended
returns c =
    c.copy.ensures ∙ ap (λ (l : List ℕ). sets l c.args.contents.end c.args.tray.now) c.put_row.ensures
