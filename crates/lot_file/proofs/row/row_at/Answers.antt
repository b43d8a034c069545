-- `row_at`: the chunk at a place.
use mathlib.Core.Path.{ap, ◌∙◌}
use mathlib.Core.List.{List, []}
use Prim.Native.Nat.{ℕ, ◌/◌}
use native.Mathlib.Omega.{arith}
use lib.ListN.{get_or, length}
use Rattle.lot_file.specs.Good.{row_in}
use Rattle.lot_file.proofs.Laws.Rows.{chunk_at}
use Rattle.lot_file.proofs.row.row_at.Goals as goal

pub returns-clause-row : goal.returns-clause-row
returns-clause-row c =
    let s = c.args.file.now in
    let p = c.args.place in
    c.row_in.ensures.row ∙ ap (λ (l : List (List ℕ)). row_in (get_or l p [])) c.as_chunks.ensures.front ∙ ap row_in (chunk_at p (length s / 10) s [] (omega arith))
