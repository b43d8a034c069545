-- `send_part`: the detail's round, and the cursors past its documents where the presenter counted them.
use Rattle.exchange.specs.Course.{standing_of}
use Rattle.exchange.proofs.Laws.Course.{part_sent_lem}
use Rattle.exchange.proofs.lot.send_part.Goals as goal

pub returns-clause-outcome : goal.returns-clause-outcome
returns-clause-outcome c =
    part_sent_lem c.args.trays.presentations.now c.args.part.now (standing_of c.args.p.now c.args.lines.now.message c.args.lines.now.reply) _ _ _ _ _ c.operation.ensures c.documents_in-before.ensures c.one_more.ensures c.documents_in-after.ensures c.past_part-p.ensures
