-- `send_lots`: lot by lot. The invariant: what the rest makes of the standing is what the whole makes of the first.
use Prim.Native.Nat.{suc, ◌-◌}
use Rattle.session.specs.Limits.{most_lots}
use Rattle.exchange.specs.Course.{standing_of, lot_made, lots_made}
use Rattle.exchange.proofs.Laws.Course.{Going}
use Rattle.exchange.proofs.direction.send_lots.Given as goal

abbrev pub invariant-loop-number : goal.invariant-loop-number
invariant-loop-number l =
    let presentations = l.trays.presentations.now in
    let returns = l.trays.returns.now in
    Going presentations returns (lot_made presentations returns) (suc most_lots - l.number) l.number (lots_made presentations returns (standing_of l.initial.p l.initial.lines.message l.initial.lines.reply)) l.lines.message l.lines.reply l.p
