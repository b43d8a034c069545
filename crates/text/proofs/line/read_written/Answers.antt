-- `read_written`: a word that is no number names nothing.
use Rattle.std.proofs.Common.{ℕ, Bool, Option, None, cond, length, ap, sym, ◌∙◌}
use Rattle.text.specs.Got.{Got, got_of, fitting}
use Rattle.text.specs.Memory.{recalled}
use Rattle.text.specs.Number.{decimal, is_number}
use Rattle.text.proofs.Laws.Number.{told_none}
use Rattle.text.proofs.line.read_written.Goals as goal

pub returns-in_err-read_number-clause-read : goal.returns-in_err-read_number-clause-read
unfolding fitting
returns-in_err-read_number-clause-read c =
    let w = c.args.word.now in
    let no = told_none (is_number w) (decimal w) c.in_err-read_number.ensures in
    ap (λ (r : Option ℕ). got_of r c.args.bytes.now) c.from_residual.ensures
    ∙ sym (ap (λ (b : Bool). fitting (length c.args.bytes.now) (cond {A = Got} b (recalled c.args.kept.memory c.args.kept.wire.now (decimal w)) None)) no)
