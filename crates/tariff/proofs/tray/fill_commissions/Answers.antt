-- `fill_commissions` goes down the chain, and writes once every document is known to be good.
use mathlib.Core.Path.{◌≡◌, refl, ap, sym, ◌∙◌}
use mathlib.Core.List.{List, flat_map}
use Prim.Native.Nat.{◌/◌, ◌%◌}
use native.Mathlib.Omega.{arith}
use borrow.Author.Tests.{eqb-true, eqb-false}
use lib.Dec.{lit<}
use lib.ListN.{length}
use Rattle.std.specs.Prelude.{Ok, Err}
use Rattle.std.proofs.lemmas.Result.{err_from_is_err_and}
use Rattle.packed.proofs.Laws.Pieces.{chunks_pieces}
use Rattle.document.specs.Limits.{document_bytes}
use Rattle.document.specs.Part.{documents_of}
use Rattle.tariff.specs.declared.row.Row.{Row}
use Rattle.tariff.specs.Tray.{fill_shown, filled_document}
use Rattle.tariff.specs.Inner.Judged.{judged}
use Rattle.tariff.proofs.Laws.Read.{refused, taken, not_read, was_read}
use Rattle.tariff.proofs.Laws.Tray.{wrong_tariff, wrong_tray, all_filled, one_refused, some_number}
use Rattle.tariff.proofs.tray.fill_commissions.Goals as goal

pub returns-in_err-tariff : goal.returns-in_err-tariff
returns-in_err-tariff c =
    let p = err_from_is_err_and c.from_residual.result c.from_residual.ensures.1 in
    let r = refused c.read_tariff.result _ c.in_err-tariff.field-0.0 c.in_err-tariff.ensures.value in
    let all = wrong_tariff c.args.tariff.now c.args.tray.now (not_read c.args.tariff.now c.read_tariff.result c.read_tariff.ensures r.0) in
    record { answer = ap fill_shown (p.1 ∙ ap Err (p.2 ∙ r.1)) ∙ all.0; after = all.1 }

pub returns-then-not-is_empty : goal.returns-then-not-is_empty
returns-then-not-is_empty c =
    let read = was_read c.args.tariff.now c.read_tariff.result c.in_ok-tariff.tariff c.read_tariff.ensures (taken c.read_tariff.result _ c.in_ok-tariff.tariff c.in_ok-tariff.ensures.value) in
    let all = wrong_tray c.args.tariff.now c.args.tray.now read.0 (λ e. eqb-false (length c.as_chunks.result.1.now) 0 (sym c.if-not-is_empty.ensures) (c.as_chunks.ensures.back_len ∙ e)) in
    record { answer = all.0; after = all.1 }

pub returns-in_err-filled : goal.returns-in_err-filled
returns-in_err-filled c =
    let tray = c.args.tray.now in
    let p = err_from_is_err_and c.from_residual-in_err-filled.result c.from_residual-in_err-filled.ensures.1 in
    let read = was_read c.args.tariff.now c.read_tariff.result c.in_ok-tariff.tariff c.read_tariff.ensures (taken c.read_tariff.result _ c.in_ok-tariff.tariff c.in_ok-tariff.ensures.value) in
    let whole : length tray % document_bytes ≡ 0 = sym c.as_chunks.ensures.back_len ∙ eqb-true (length c.as_chunks.result.1.now) 0 (sym c.if-not-is_empty.ensures) in
    let documents = c.as_chunks.ensures.front ∙ chunks_pieces document_bytes (lit< tt) (length tray / document_bytes) tray (omega arith) in
    let all = one_refused c.args.tariff.now tray read.0 whole (Err c.in_err-filled.field-0.0) (c.in_err-filled.ensures ∙ (λ i. judged (read.1 i) (documents i))) (some_number c.in_err-filled.field-0.0) in
    record { answer = ap fill_shown (p.1 ∙ ap Err p.2) ∙ all.0; after = all.1 }

pub returns : goal.returns
returns c =
    let tray = c.args.tray.now in
    let read = was_read c.args.tariff.now c.read_tariff.result c.in_ok-tariff.tariff c.read_tariff.ensures (taken c.read_tariff.result _ c.in_ok-tariff.tariff c.in_ok-tariff.ensures.value) in
    let whole : length tray % document_bytes ≡ 0 = sym c.as_chunks.ensures.back_len ∙ eqb-true (length c.as_chunks.result.1.now) 0 (sym c.if-not-is_empty.ensures) in
    let documents = c.as_chunks.ensures.front ∙ chunks_pieces document_bytes (lit< tt) (length tray / document_bytes) tray (omega arith) in
    let all = all_filled c.args.tariff.now tray read.0 whole (Ok c.in_ok-filled.filled) (c.in_ok-filled.ensures ∙ (λ i. judged (read.1 i) (documents i))) refl in
    record { answer = all.0; after = c.fill.ensures ∙ ap (λ (rows : List Row). flat_map (filled_document rows) (documents_of tray)) read.1 ∙ all.1 }
