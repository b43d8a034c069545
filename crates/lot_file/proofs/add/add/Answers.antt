-- `add` writes the lot where there is room.
use mathlib.Core.Path.{sym, ◌∙◌}
use native.Mathlib.Omega.{arith}
use Rattle.std.proofs.lemmas.Result.{err_from_is_err_and}
use Rattle.session.specs.Limits.{most_lots, most_lot_documents}
use Rattle.lot_file.specs.Answers.{refusal_number}
use Rattle.lot_file.proofs.Laws.Binary.{Bytes}
use Rattle.lot_file.proofs.Laws.Answers.{refusal_told, asked, row_free, nothing_added, appended_added}
use Rattle.lot_file.proofs.add.add.Goals as goal

pub returns-in_err-contents : goal.returns-in_err-contents
returns-in_err-contents c =
    let r = c.in_err-contents.field-0.0 in
    let p = err_from_is_err_and c.from_residual.result c.from_residual.ensures.1 in
    let code = c.in_err-contents.ensures.answer in
    record { answer = rw (p.1, p.2) code; after = nothing_added most_lots most_lot_documents c.args.file.now c.args.number c.args.tray.now (refusal_number r) (refusal_told r) (sym code) }

pub append-requires : goal.append-requires
append-requires c =
    let told = c.in_ok-contents.ensures.room in
    let x = c.in_ok-contents.contents in
    let a = asked most_lots most_lot_documents c.args.file.now x c.args.number told.asked in
    record { used_bound = row_free most_lots most_lot_documents c.args.file.now c.args.tray.now x c.args.number a told.free; tray_in_bounds = told.fits }

pub returns : goal.returns
returns c =
    let s = c.args.file.now in
    let told = c.in_ok-contents.ensures in
    let x = c.in_ok-contents.contents in
    let a = asked most_lots most_lot_documents s x c.args.number told.room.asked in
    let bytes : Bytes s = λ i. grind arith in
    record { answer = told.answer; after = c.append.ensures ∙ appended_added most_lots most_lot_documents s c.args.tray.now x c.args.number a bytes (sym told.answer) told.room.free told.room.fits }
