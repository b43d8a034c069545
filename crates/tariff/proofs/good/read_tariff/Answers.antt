-- `read_tariff` asks what 42 is given for: a cut row, too many keys, rows that are not good.
use mathlib.Core.Path.{◌≡◌, ap, sym, ◌∙◌}
use mathlib.Core.List.{map}
use Prim.Native.Nat.{◌*◌, ◌%◌, ◌≤◌}
use native.Mathlib.Omega.{arith}
use borrow.Author.Tests.{eqb-true, eqb-false}
use lib.ListN.{length}
use Rattle.tariff.specs.Tariff.{most_keys, row_numbers, row_in, rows_of}
use Rattle.tariff.proofs.Laws.Rows.{all_good, chunk_rows, rows_decide, cut_row, many_keys}
use Rattle.tariff.proofs.good.read_tariff.Goals as goal
use Rattle.tariff.proofs.good.read_tariff.Goals.{else-is_empty-via-then-is_empty+then-rows-le-MOST_KEYS+else-rows_good, else-is_empty-via-then-is_empty+else-rows-le-MOST_KEYS, else-is_empty-via-else-is_empty}

pub returns-then-rows_good : goal.returns-then-rows_good
returns-then-rows_good c =
    let n = c.args.numbers.now in
    let cut = c.as_chunks.ensures in
    let whole : length n % row_numbers ≡ 0 = sym cut.back_len ∙ eqb-true (length c.as_chunks.result.1.now) 0 (sym c.if-is_empty.ensures) in
    let few : length n ≤ most_keys * row_numbers = omega (arith, cut.front_len, c.if-rows-le-MOST_KEYS.true) in
    let rows : map row_in c.as_chunks.result.0.now ≡ rows_of n = ap (map row_in) cut.front ∙ chunk_rows n whole in
    (sym (rows_decide n whole few) ∙ ap all_good (sym rows) ∙ sym c.if-rows_good.ensures, rows)

pub returns-else-is_empty : goal.returns-else-is_empty
returns-else-is_empty c =
    let n = c.args.numbers.now in
    let cut = c.as_chunks.ensures in
    elim c.else-is_empty.branch [
      | else-is_empty-via-then-is_empty+then-rows-le-MOST_KEYS+else-rows_good w ↦
          let whole : length n % row_numbers ≡ 0 = sym cut.back_len ∙ eqb-true (length c.as_chunks.result.1.now) 0 (sym w.if-is_empty.ensures) in
          let few : length n ≤ most_keys * row_numbers = omega (arith, cut.front_len, w.if-rows-le-MOST_KEYS.true) in
          let rows : map row_in c.as_chunks.result.0.now ≡ rows_of n = ap (map row_in) cut.front ∙ chunk_rows n whole in
          sym (rows_decide n whole few) ∙ ap all_good (sym rows) ∙ sym w.if-rows_good.ensures
      | else-is_empty-via-then-is_empty+else-rows-le-MOST_KEYS w ↦ many_keys n (omega (arith, cut.front_len, w.if-rows-le-MOST_KEYS.false))
      | else-is_empty-via-else-is_empty w ↦ cut_row n (λ e. eqb-false (length c.as_chunks.result.1.now) 0 (sym w.if-is_empty.ensures) (cut.back_len ∙ e))
    ]
