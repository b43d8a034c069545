-- `contents_of`: the pass, and what lies behind the used rows.
use mathlib.Core.Path.{ap, sym, ◌∙◌}
use mathlib.Core.Bool.{◌&&◌}
use Prim.Native.Nat.{ℕ, ◌-◌}
use lib.Dec.{eqb}
use lib.ListN.{length}
use borrow.Author.Tests.{le-leb, lt-leb}
use Rattle.std.specs.Prelude.{is_some}
use Rattle.packed.specs.Part.{part}
use Rattle.packed.specs.Every.{every}
use Rattle.lot_file.specs.Layout.{table_bytes}
use Rattle.lot_file.proofs.Laws.Contents.{short_slice, none_told, some_told}
use Rattle.lot_file.proofs.contents.contents_of.Goals as goal
use Rattle.lot_file.proofs.contents.contents_of.Goals.{then-file-contents-via-then-file-contents, then-file-contents-via-else-file-contents+then-not-all_zero}

pub returns-then-file-table-clause-verdict : goal.returns-then-file-table-clause-verdict
returns-then-file-table-clause-verdict c = sym (short_slice c.args.rows c.args.most c.args.file.now c.if-file-table.true)

pub returns-in_err-contents-clause-verdict : goal.returns-in_err-contents-clause-verdict
returns-in_err-contents-clause-verdict c =
    ap is_some c.from_residual.ensures
    ∙ sym (none_told c.args.rows c.args.most c.args.file.now c.if-file-table.false c.first_rows.result.now c.first_rows.ensures.rows (sym c.walked.ensures.pass ∙ c.in_err-contents.was))

pub returns-then-file-contents-clause-verdict : goal.returns-then-file-contents-clause-verdict
returns-then-file-contents-clause-verdict c =
    let s = c.args.file.now in
    let x = c.in_ok-contents.contents in
    let told = some_told c.args.rows c.args.most s c.if-file-table.false c.first_rows.result.now c.first_rows.ensures.rows x (sym c.walked.ensures.pass ∙ c.in_ok-contents.was) in
    elim c.then-file-contents.branch [
      | then-file-contents-via-then-file-contents w ↦ (λ i. sym (lt-leb x.end (length s) w.if-file-contents.true) i && every (λ (b : ℕ). eqb b 0) (part (table_bytes x.used) (table_bytes c.args.rows - table_bytes x.used) s)) ∙ told.1
      | then-file-contents-via-else-file-contents+then-not-all_zero w ↦ (λ i. sym (le-leb x.end (length s) w.if-file-contents.false) i && (sym w.if-not-all_zero.true ∙ w.all_zero.ensures) i) ∙ told.1
    ]

pub returns : goal.returns
returns c =
    let s = c.args.file.now in
    let x = c.in_ok-contents.contents in
    let told = some_told c.args.rows c.args.most s c.if-file-table.false c.first_rows.result.now c.first_rows.ensures.rows x (sym c.walked.ensures.pass ∙ c.in_ok-contents.was) in
    record {
      verdict = (λ i. sym (le-leb x.end (length s) c.if-file-contents.false) i && (sym c.if-not-all_zero.false ∙ c.all_zero.ensures) i) ∙ told.1;
      told = told.0;
    }
