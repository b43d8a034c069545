-- `room_for` goes down the chain.
use mathlib.Core.Path.{◌≡◌, ap, sym, ◌∙◌}
use mathlib.Core.Bool.{Bool, true, false, ◌&&◌, ◌||◌}
use Prim.Native.Nat.{◌-◌}
use native.Mathlib.Omega.{arith}
use lib.Dec.{leb, ltb}
use lib.ListN.{length}
use borrow.Author.Tests.{lt-ltb, le-ltb, le-leb, lt-leb}
use Rattle.std.proofs.lemmas.Result.{err_from_is_err_and}
use Rattle.session.specs.Limits.{most_lots, most_lot_documents}
use Rattle.lot_file.specs.Adding.{tray_good}
use Rattle.lot_file.proofs.Laws.Answers.{asked, is_there, adding_25, tray_fits, adding_4, adding_45, adding_0, room_is}
use Rattle.lot_file.proofs.add.room_for.Goals as goal
use Rattle.lot_file.proofs.add.room_for.Goals.{then-contents-ge-ROWS-via-then-contents-ge-ROWS, then-contents-ge-ROWS-via-else-contents-ge-ROWS+then-file-contents}

pub returns-in_err-contents-clause-answer : goal.returns-in_err-contents-clause-answer
returns-in_err-contents-clause-answer c =
    let tray = c.args.tray.now in
    let p = err_from_is_err_and c.from_residual.result c.from_residual.ensures.1 in
    let w = c.in_err-contents.ensures.wrong in
    rw (p.1, p.2) (w.1 ∙ sym (adding_25 most_lots most_lot_documents c.args.file.now c.args.number tray (ap (λ (t : Bool). t && tray_good most_lot_documents tray) w.0)))

pub returns-then-not-tray_good-clause-answer : goal.returns-then-not-tray_good-clause-answer
returns-then-not-tray_good-clause-answer c =
    sym (adding_25 most_lots most_lot_documents c.args.file.now c.args.number c.args.tray.now (λ i. c.in_ok-contents.ensures.good.passed i && (sym c.tray_good.ensures ∙ c.if-not-tray_good.true) i))

pub first_rows-requires : goal.first_rows-requires
first_rows-requires c =
    (asked most_lots most_lot_documents c.args.file.now c.in_ok-contents.contents c.args.number c.in_ok-contents.ensures.good).table

pub returns-then-is_some-clause-answer : goal.returns-then-is_some-clause-answer
returns-then-is_some-clause-answer c =
    let s = c.args.file.now in
    let tray = c.args.tray.now in
    let n = c.args.number in
    let a = asked most_lots most_lot_documents s c.in_ok-contents.contents n c.in_ok-contents.ensures.good in
    let passed = tray_fits most_lots most_lot_documents s n tray a.passed (sym c.tray_good.ensures ∙ c.if-not-tray_good.false) in
    sym (adding_4 most_lots most_lot_documents s n tray passed (sym (is_there most_lots most_lot_documents s c.in_ok-contents.contents n a c.first_rows.result.now c.place_of.result c.first_rows.ensures.rows c.place_of.ensures) ∙ sym c.is_some.ensures ∙ c.if-is_some.true))

pub overflow_sub-file : goal.overflow_sub-file
overflow_sub-file c =
    let a = asked most_lots most_lot_documents c.args.file.now c.in_ok-contents.contents c.args.number c.in_ok-contents.ensures.good in
    omega (arith, a.ended, a.clauses.room)

pub returns-then-contents-ge-ROWS-clause-answer : goal.returns-then-contents-ge-ROWS-clause-answer
returns-then-contents-ge-ROWS-clause-answer c =
    let s = c.args.file.now in
    let tray = c.args.tray.now in
    let n = c.args.number in
    let x = c.in_ok-contents.contents in
    let a = asked most_lots most_lot_documents s x n c.in_ok-contents.ensures.good in
    let passed = tray_fits most_lots most_lot_documents s n tray a.passed (sym c.tray_good.ensures ∙ c.if-not-tray_good.false) in
    let absent = sym (is_there most_lots most_lot_documents s x n a c.first_rows.result.now c.place_of.result c.first_rows.ensures.rows c.place_of.ensures) ∙ sym c.is_some.ensures ∙ c.if-is_some.false in
    let none : leb most_lots x.used || ltb (length s - x.end) (length tray) ≡ true = elim c.then-contents-ge-ROWS.branch [
      | then-contents-ge-ROWS-via-then-contents-ge-ROWS w ↦ λ i. le-leb most_lots x.used w.if-contents-ge-ROWS.true i || ltb (length s - x.end) (length tray)
      | then-contents-ge-ROWS-via-else-contents-ge-ROWS+then-file-contents w ↦ λ i. lt-leb most_lots x.used w.if-contents-ge-ROWS.false i || lt-ltb (length s - x.end) (length tray) w.if-file-contents.true i
    ] in
    sym (adding_45 most_lots most_lot_documents s n tray passed absent (sym (room_is most_lots most_lot_documents s tray x n a) ∙ none))

pub returns : goal.returns
returns c =
    let s = c.args.file.now in
    let tray = c.args.tray.now in
    let n = c.args.number in
    let x = c.in_ok-contents.contents in
    let a = asked most_lots most_lot_documents s x n c.in_ok-contents.ensures.good in
    let passed = tray_fits most_lots most_lot_documents s n tray a.passed (sym c.tray_good.ensures ∙ c.if-not-tray_good.false) in
    let absent = sym (is_there most_lots most_lot_documents s x n a c.first_rows.result.now c.place_of.result c.first_rows.ensures.rows c.place_of.ensures) ∙ sym c.is_some.ensures ∙ c.if-is_some.false in
    let room : leb most_lots x.used || ltb (length s - x.end) (length tray) ≡ false = λ i. lt-leb most_lots x.used c.if-contents-ge-ROWS.false i || le-ltb (length s - x.end) (length tray) c.if-file-contents.false i in
    record {
      answer = sym (adding_0 most_lots most_lot_documents s n tray passed absent (sym (room_is most_lots most_lot_documents s tray x n a) ∙ room));
      room = record { asked = c.in_ok-contents.ensures.good; free = c.if-contents-ge-ROWS.false; fits = omega (arith, a.ended, a.clauses.room, c.if-file-contents.false) };
    }
