-- `present`: the lots from unmoved cursors, and the session total after them.
use mathlib.Core.Path.{ap, ◌∙◌}
use Rattle.session.specs.Hours.{opening}
use Rattle.session.specs.Sending.{Send}
use Rattle.session.specs.Engine.{Call}
use Rattle.exchange.specs.Course.{Standing, ends_of, round_made, lots_made, direction_made}
use Rattle.exchange.proofs.direction.present.Goals as goal

pub returns : goal.returns
unfolding direction_made
returns c =
    let first = ends_of c.args.ends c.args.lines.now.message c.args.lines.now.reply in
    c.one_more.ensures ∙ ap (λ (s : Standing). round_made (Call.send opening Send.session_total) s.ends) (c.send_lots.ensures.outcome ∙ (λ i. lots_made c.args.trays.presentations.now c.args.trays.returns.now (record { ends = first; cursors = record { presentations = c.default.ensures.0 i; returns = c.default.ensures.1 i } })))
