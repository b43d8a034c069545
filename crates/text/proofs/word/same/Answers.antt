-- `same`: std's comparison is the same.
use Rattle.std.proofs.Common.{◌∙◌}
use Rattle.text.proofs.Laws.Word.{same_is}
use Rattle.text.proofs.word.same.Goals as goal

pub returns : goal.returns
returns c = c.eq.ensures ∙ same_is c.args.a.now c.args.b.now
