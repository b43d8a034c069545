use mathlib.Core.Path.{sym, ◌∙◌}
use mathlib.Core.Bool.{not, ◌&&◌}
use native.Mathlib.Omega.{arith}
use lib.ListN.{take}
use Rattle.packed.specs.Every.{member}
use Rattle.lot_file.specs.Good.{numbers_of}
use Rattle.lot_file.proofs.Laws.Contents.{read, at_first, one_more, at_unused, at_bad, at_last}
use Rattle.lot_file.proofs.contents.walked.Goals as goal
use Rattle.lot_file.proofs.contents.walked.Goals.{then-not-row_good-via-then-not-row_good, then-not-row_good-via-else-not-row_good+then-seen}

pub loop-used-init : goal.loop-used-init
loop-used-init c = at_first c.args.most c.args.rows.now

pub returns-then-row-eq0-clause-pass : goal.returns-then-row-eq0-clause-pass
returns-then-row-eq0-clause-pass c =
    let l = c.loop-used in
    at_unused c.args.most c.args.rows.now l.used l.end l.largest l.invariant c.row_in-row.result (omega arith) c.row_in-row.ensures.row c.if-row-eq0.true

pub returns-then-not-row_good-clause-pass : goal.returns-then-not-row_good-clause-pass
returns-then-not-row_good-clause-pass c =
    let l = c.loop-used in
    let r = c.row_in-row.result in
    at_bad c.args.most c.args.rows.now l.used l.end l.largest l.invariant r (omega arith) c.row_in-row.ensures.row c.if-row-eq0.false (elim c.then-not-row_good.branch [
      | then-not-row_good-via-then-not-row_good w ↦ λ i. (sym c.row_good.ensures ∙ w.if-not-row_good.true) i && not (member r.number (numbers_of (read (take l.used c.args.rows.now))))
      | then-not-row_good-via-else-not-row_good+then-seen w ↦ λ i. (sym c.row_good.ensures ∙ w.if-not-row_good.false) i && not ((sym w.seen.ensures ∙ w.if-seen.true) i)
    ])

pub loop-used-preserved : goal.loop-used-preserved
loop-used-preserved c =
    let l = c.loop-used in
    one_more c.args.most c.args.rows.now l.used l.end l.largest l.invariant c.row_in-row.result (omega arith) c.row_in-row.ensures.row c.if-row-eq0.false
    c.max-largest.result
    c.row_in-row.ensures.documents
    (omega (arith, c.max-largest.ensures))
    (omega (arith, c.max-largest.ensures))
    (sym c.row_good.ensures ∙ c.if-not-row_good.false)
    (sym c.seen.ensures ∙ c.if-seen.false)

pub returns-clause-pass : goal.returns-clause-pass
returns-clause-pass c =
    let l = c.loop-used in
    at_last c.args.most c.args.rows.now l.used l.end l.largest l.invariant (omega arith)
