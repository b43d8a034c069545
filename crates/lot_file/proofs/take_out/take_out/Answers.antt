-- `take_out` closes the place of the lot.
use mathlib.Core.Path.{sym, ◌∙◌}
use native.Mathlib.Omega.{arith}
use lib.Dec.{lit≤}
use Rattle.std.proofs.lemmas.Result.{err_from_is_err_and}
use Rattle.session.specs.Limits.{most_lots, most_lot_documents}
use Rattle.lot_file.specs.Answers.{refusal_number}
use Rattle.lot_file.proofs.Laws.Binary.{Bytes}
use Rattle.lot_file.proofs.Laws.Answers.{refusal_told, nothing_taken, closable, closed_taken}
use Rattle.lot_file.proofs.take_out.take_out.Goals as goal

pub returns-in_err-lot : goal.returns-in_err-lot
returns-in_err-lot c =
    let r = c.in_err-lot.field-0.0 in
    let p = err_from_is_err_and c.from_residual.result c.from_residual.ensures.1 in
    let code = c.in_err-lot.ensures.answer in
    record { answer = rw (p.1, p.2) code; after = nothing_taken most_lots most_lot_documents c.args.file.now c.args.number (refusal_number r) (refusal_told r) (sym code) }

pub close-requires : goal.close-requires
close-requires c =
    let told = c.in_ok-lot.ensures in
    closable most_lots most_lot_documents c.args.file.now c.args.number (sym told.answer) c.in_ok-lot.lot told.lot (lit≤ tt)

pub returns : goal.returns
returns c =
    let told = c.in_ok-lot.ensures in
    let bytes : Bytes c.args.file.now = λ i. grind arith in
    record { answer = told.answer; after = c.close.ensures ∙ closed_taken most_lots most_lot_documents c.args.file.now c.args.number (sym told.answer) c.in_ok-lot.lot told.lot bytes }
