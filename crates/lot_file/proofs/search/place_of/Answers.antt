-- `place_of`: the place where the closure first holds.
use mathlib.Core.Path.{◌∙◌}
use mathlib.Core.List.{List}
use Prim.Native.Nat.{ℕ}
use lib.Dec.{eqb}
use Rattle.std.proofs.Common.{rules, tests}
use Rattle.std.proofs.lemmas.Iterator.{YieldsList-from_slice}
use Rattle.std.proofs.lemmas.Iterator.Search.{position_from_yields_List}
use Rattle.lot_file.specs.Good.{row_in}
use Rattle.lot_file.proofs.Laws.Search.{position_place}
use Rattle.lot_file.proofs.search.place_of.Goals as goal

pub returns : goal.returns
returns c =
    position_from_yields_List (λ (b : List ℕ). eqb c.args.number (row_in b).number) _ _ _ c.position.ensures.ran (YieldsList-from_slice c.args.rows.now cc) (λ x b q k. search (rules, tests))
    ∙ position_place c.args.number c.args.rows.now
