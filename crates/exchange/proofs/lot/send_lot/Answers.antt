-- `send_lot`: by the test, over the part that the trays give.
use mathlib.Core.Path.{sym, ◌∙◌}
use Rattle.exchange.specs.Course.{standing_of}
use Rattle.exchange.proofs.Laws.Course.{lot_none, lot_some}
use Rattle.exchange.proofs.lot.send_lot.Goals as goal

pub returns-then-is_empty-clause-outcome : goal.returns-then-is_empty-clause-outcome
returns-then-is_empty-clause-outcome c =
    lot_none c.args.trays.presentations.now c.args.trays.returns.now _ c.args.number (standing_of c.args.p.now c.args.lines.now.message c.args.lines.now.reply) c.next.ensures (sym c.is_empty.ensures ∙ c.if-is_empty.true)

pub returns-clause-outcome : goal.returns-clause-outcome
returns-clause-outcome c =
    c.whole_lot.ensures.outcome ∙ lot_some c.args.trays.presentations.now c.args.trays.returns.now _ c.args.number (standing_of c.args.p.now c.args.lines.now.message c.args.lines.now.reply) c.next.ensures (sym c.is_empty.ensures ∙ c.if-is_empty.false)
