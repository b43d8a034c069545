-- `rows_good` asks of each row whether it is good and whether no later row has its key. The invariant: the rows that are left decide.
use mathlib.Core.Path.{◌≡◌}
use mathlib.Core.List.{map}
use lib.ListN.{drop}
use Rattle.tariff.specs.Tariff.{row_in}
use Rattle.tariff.proofs.Laws.Rows.{all_good}
use Rattle.tariff.proofs.good.rows_good.Given as goal

abbrev pub invariant-loop-place : goal.invariant-loop-place
invariant-loop-place l = all_good (map row_in (drop l.place l.rows)) ≡ all_good (map row_in l.rows)
