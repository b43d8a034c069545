-- `judge` goes through the documents. The invariant: what the documents that are left decide is what all decide, those passed being counted.
use mathlib.Core.List.{map}
use lib.ListN.{drop}
use Rattle.tariff.specs.Tariff.{row_in}
use Rattle.tariff.proofs.Laws.Judged.{Passed}
use Rattle.tariff.proofs.judging.judge.Given as goal

abbrev pub invariant-loop-place : goal.invariant-loop-place
invariant-loop-place l = Passed (map row_in l.tariff.rows.now) l.documents (drop l.place l.documents) l.place
