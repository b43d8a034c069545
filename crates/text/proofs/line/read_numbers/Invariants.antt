-- `read_numbers`: with the words that are left the reading is as it is to be.
use Rattle.std.proofs.Common.{◌≡◌, length}
use Rattle.text.specs.Word.{words}
use Rattle.text.proofs.Laws.Line.{Rest}
use Rattle.text.proofs.line.read_numbers.Given as goal

abbrev pub invariant-loop-count : goal.invariant-loop-count
invariant-loop-count l = (length l.numbers ≡ length l.initial.numbers) × Rest (words l.line) (words l.rest) l.most l.count l.first l.initial.numbers l.numbers
