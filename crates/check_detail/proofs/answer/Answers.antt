-- `answer`: the line of the check stands at the start of the buffer.
use mathlib.Core.Path.{◌≡◌, ap, sym, ◌∙◌}
use native.Mathlib.Omega.{arith}
use lib.ListN.{length, take}
use Rattle.packed.proofs.Laws.Writing.{part_sets}
use Rattle.check_detail.specs.Line.{line_of}
use Rattle.check_detail.proofs.answer.Goals as goal

pub returns : goal.returns
returns c =
    let line = c.args.line.now in
    let text : take c.write_line.result c.write_line.new.line ≡ line_of c.checked.result = ap (take c.write_line.result) c.write_line.ensures.written ∙ part_sets (line_of c.checked.result) line 0 c.write_line.result (sym c.write_line.ensures.long) (omega (arith, c.write_line.ensures.short)) in
    record { counts = (omega (arith, c.write_line.ensures.short, c.write_line.auto.line), c.write_line.ensures.long ∙ ap length (sym text)); written = text ∙ ap line_of c.checked.ensures }
