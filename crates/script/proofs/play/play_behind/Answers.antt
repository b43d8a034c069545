-- `play_behind`: what stands behind the answer in the lent tail stands behind it in the output.
use Rattle.std.proofs.Common.{arith}
use Rattle.script.proofs.Laws.Play.{behind}
use Rattle.script.proofs.play.play_behind.Goals as goal

pub returns : goal.returns
returns c = behind c.args.output.now _ c.args.count _ c.play_line.result c.requires (omega arith) c.play_line.ensures.done
