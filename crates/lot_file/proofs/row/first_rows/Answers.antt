-- `first_rows`: the chunks of ten bytes are the rows.
use mathlib.Core.Path.{ap, ◌∙◌}
use mathlib.Core.List.{List}
use Prim.Native.Nat.{ℕ, ◌/◌}
use native.Mathlib.Omega.{arith}
use lib.ListN.{take, length}
use Rattle.lot_file.proofs.Laws.Rows.{chunks_cut}
use Rattle.lot_file.proofs.row.first_rows.Goals as goal

pub returns-clause-rows : goal.returns-clause-rows
returns-clause-rows c =
    let s = c.args.file.now in
    ap (λ (l : List (List ℕ)). take c.args.count l) c.as_chunks.ensures.front ∙ chunks_cut c.args.count (length s / 10) s (omega arith) c.requires
