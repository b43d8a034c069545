-- `walked` goes from row to row. The invariant is `Sofar`.
use Rattle.lot_file.proofs.Laws.Contents.{Sofar}
use Rattle.lot_file.proofs.contents.walked.Given as goal

abbrev pub invariant-loop-used : goal.invariant-loop-used
invariant-loop-used l = Sofar l.most l.rows l.used l.end l.largest
