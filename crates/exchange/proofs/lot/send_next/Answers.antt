-- `send_next`: by the test, over the part that the trays give.
use mathlib.Core.Path.{◌∙◌}
use Rattle.exchange.specs.Course.{standing_of}
use Rattle.exchange.proofs.Laws.Cursors.{moved_within}
use Rattle.exchange.proofs.Laws.Course.{no_room, room}
use Rattle.exchange.proofs.lot.send_next.Goals as goal

pub returns-then-documents-passes_lot-clause-outcome : goal.returns-then-documents-passes_lot-clause-outcome
returns-then-documents-passes_lot-clause-outcome c =
    no_room c.args.trays.presentations.now c.args.trays.returns.now _ (standing_of c.args.p.now c.args.lines.now.message c.args.lines.now.reply) c.next-part.ensures _ _ c.documents_in-gathered.ensures c.passes_lot.ensures c.if-documents-passes_lot.true

pub send_part-requires-clause-moved : goal.send_part-requires-clause-moved
send_part-requires-clause-moved c =
    moved_within c.args.trays.presentations.now c.args.trays.returns.now c.args.p.now.cursors c.requires _ c.next-part.ensures

pub returns-clause-outcome : goal.returns-clause-outcome
returns-clause-outcome c =
    c.send_part.ensures.outcome ∙ room c.args.trays.presentations.now c.args.trays.returns.now _ (standing_of c.args.p.now c.args.lines.now.message c.args.lines.now.reply) c.next-part.ensures _ _ c.documents_in-gathered.ensures c.passes_lot.ensures c.if-documents-passes_lot.false
