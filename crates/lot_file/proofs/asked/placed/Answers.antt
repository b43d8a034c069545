-- `placed`: what was asked first, and what the search has found.
use mathlib.Core.Path.{sym, ◌∙◌}
use Rattle.std.proofs.lemmas.Result.{err_from_is_err_and}
use Rattle.session.specs.Limits.{most_lots, most_lot_documents}
use Rattle.lot_file.proofs.Laws.Answers.{asked, refused_25, answer_46, answer_0, place_is}
use Rattle.lot_file.proofs.asked.placed.Goals as goal

pub returns-in_err-used-clause-answer : goal.returns-in_err-used-clause-answer
returns-in_err-used-clause-answer c =
    let p = err_from_is_err_and c.from_residual.result c.from_residual.ensures.1 in
    let w = c.in_err-used.ensures.wrong in
    rw (p.1, p.2) (w.1 ∙ sym (refused_25 most_lots most_lot_documents c.args.file.now c.args.number w.0))

pub first_rows-requires : goal.first_rows-requires
first_rows-requires c =
    (asked most_lots most_lot_documents c.args.file.now c.in_ok-used.field-0 c.args.number c.in_ok-used.ensures.good).table

pub returns-in-Some-clause-answer : goal.returns-in-Some-clause-answer
returns-in-Some-clause-answer c =
    let a = asked most_lots most_lot_documents c.args.file.now c.in_ok-used.field-0 c.args.number c.in_ok-used.ensures.good in
    sym (answer_0 most_lots most_lot_documents c.args.file.now c.in_ok-used.field-0 c.args.number a c.first_rows.result.now c.place_of.result c.first_rows.ensures.rows c.place_of.ensures c.in-Some.place c.in-Some.is)

pub returns-in-Some-clause-lot : goal.returns-in-Some-clause-lot
returns-in-Some-clause-lot c =
    let a = asked most_lots most_lot_documents c.args.file.now c.in_ok-used.field-0 c.args.number c.in_ok-used.ensures.good in
    record {
      used = a.counted;
      end = a.ended;
      place = place_is most_lots most_lot_documents c.args.file.now c.in_ok-used.field-0 c.args.number a c.first_rows.result.now c.place_of.result c.first_rows.ensures.rows c.place_of.ensures c.in-Some.place c.in-Some.is;
    }

pub returns-in-None-clause-answer : goal.returns-in-None-clause-answer
returns-in-None-clause-answer c =
    let a = asked most_lots most_lot_documents c.args.file.now c.in_ok-used.field-0 c.args.number c.in_ok-used.ensures.good in
    sym (answer_46 most_lots most_lot_documents c.args.file.now c.in_ok-used.field-0 c.args.number a c.first_rows.result.now c.place_of.result c.first_rows.ensures.rows c.place_of.ensures c.in-None.is)
