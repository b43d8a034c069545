-- `find`: the row that it reads is the number's own.
use mathlib.Core.Path.{sym, ◌∙◌}
use Rattle.std.proofs.lemmas.Result.{err_from_is_err_and}
use Rattle.session.specs.Limits.{most_lots, most_lot_documents}
use Rattle.lot_file.specs.Answers.{refusal_number}
use Rattle.lot_file.proofs.Laws.Answers.{refusal_told, found_refused, found_row_lem, row_room, row_found}
use Rattle.lot_file.proofs.find.find.Goals as goal

pub returns-in_err-lot : goal.returns-in_err-lot
returns-in_err-lot c =
    let r = c.in_err-lot.field-0.0 in
    let p = err_from_is_err_and c.from_residual.result c.from_residual.ensures.1 in
    rw (p.1, p.2) (found_refused most_lots most_lot_documents c.args.file.now c.args.number (refusal_number r) (refusal_told r) (sym c.in_err-lot.ensures.answer))

pub row_at-row-requires : goal.row_at-row-requires
row_at-row-requires c =
    let told = c.in_ok-lot.ensures in
    row_room most_lots most_lot_documents c.args.file.now c.args.number (sym told.answer) c.in_ok-lot.lot told.lot

pub returns : goal.returns
returns c =
    let told = c.in_ok-lot.ensures in
    let zero = sym told.answer in
    found_row_lem most_lots most_lot_documents c.args.file.now c.args.number c.row_at-row.result (c.row_at-row.ensures.row ∙ row_found most_lots most_lot_documents c.args.file.now c.args.number zero c.in_ok-lot.lot told.lot) zero
