use mathlib.Core.Path.{ap, sym, ◌∙◌}
use mathlib.Core.List.{map}
use Prim.Native.Nat.{◌+◌}
use native.Mathlib.Omega.{arith}
use Rattle.std.specs.Prelude.{is_some}
use Rattle.std.proofs.lemmas.List.{take_rest}
use Rattle.tariff.specs.Tariff.{row_in, row_good}
use Rattle.tariff.specs.Commission.{searched}
use Rattle.tariff.proofs.Laws.Rows.{no_rows, bad_row, key_twice, rest_decides}
use Rattle.tariff.proofs.good.rows_good.Goals as goal
use Rattle.tariff.proofs.good.rows_good.Goals.{then-not-is_good-via-then-not-is_good, then-not-is_good-via-else-not-is_good+then-is_some}

pub returns-then-not-is_good : goal.returns-then-not-is_good
returns-then-not-is_good c =
    let rows = c.args.rows.now in
    let t = c.loop-place in
    let row = c.from-row.ensures in
    elim c.then-not-is_good.branch [
      | then-not-is_good-via-then-not-is_good w ↦ sym (bad_row rows t.place (omega arith) (ap row_good (sym row) ∙ sym w.if-not-is_good.ensures)) ∙ t.invariant
      | then-not-is_good-via-else-not-is_good+then-is_some w ↦
          let found = w.search.ensures ∙ (λ i. searched (map row_in (take_rest rows (t.place + 1) i)) (row i).key) in
          sym (key_twice rows t.place (omega arith) (w.if-is_some.ensures ∙ ap is_some found)) ∙ t.invariant
    ]

pub loop-place-preserved : goal.loop-place-preserved
loop-place-preserved c =
    let rows = c.args.rows.now in
    let t = c.loop-place in
    let row = c.from-row.ensures in
    let found = c.search.ensures ∙ (λ i. searched (map row_in (take_rest rows (t.place + 1) i)) (row i).key) in
    sym (rest_decides rows t.place (omega arith) (ap row_good (sym row) ∙ sym c.if-not-is_good.ensures) (c.if-is_some.ensures ∙ ap is_some found))
    ∙ t.invariant

pub returns : goal.returns
returns c = no_rows c.args.rows.now c.loop-place.place (omega arith) ∙ c.loop-place.invariant
