-- `emit`: an answer is written where it fits, and nothing else.
use Rattle.std.proofs.Common.{length, refl, arith}
use Rattle.script.proofs.Laws.Answer.{at_most}
use Rattle.script.proofs.play.emit.Goals as goal

pub returns-then-output-answer_bytes : goal.returns-then-output-answer_bytes
returns-then-output-answer_bytes c =
    (omega (arith, c.if-output-answer_bytes.true, c.answer_bytes.ensures, at_most c.args.head.now.at (length c.args.shown.now), c.args.head.now.within, c.requires), refl)
