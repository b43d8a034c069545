-- `entities_of`: one entity more, and all of them.
use Rattle.std.proofs.Common.{refl, sym, ◌∙◌, arith}
use lib.ListN.{length-set}
use Rattle.script.proofs.Laws.Reading.{entities_on, entities_all}
use Rattle.script.proofs.reading.entities_of.Goals as goal

pub loop-i-init : goal.loop-i-init
loop-i-init c = (refl, refl)

pub loop-i-preserved : goal.loop-i-preserved
loop-i-preserved c =
    (c.loop-i.invariant.0 ∙ sym (length-set c.loop-i.all c.loop-i.i _), entities_on c.loop-i.all c.args.numbers c.loop-i.i _ (omega (arith, c.requires)) c.to_u16.ensures ∙ c.loop-i.invariant.1)

pub returns : goal.returns
returns c =
    entities_all _ c.loop-i.all c.args.numbers c.loop-i.i refl c.requires (omega arith) c.loop-i.invariant.1
