-- `fill`: part by part. The invariant: what the rest makes of the standing is what the whole makes of the first.
use Prim.Native.Nat.{◌-◌}
use Rattle.exchange.specs.Fixed.{lot_parts}
use Rattle.exchange.specs.Course.{standing_of, next_part, filled}
use Rattle.exchange.proofs.Laws.Course.{Going}
use Rattle.exchange.proofs.lot.fill.Given as goal

abbrev pub invariant-loop-parts : goal.invariant-loop-parts
invariant-loop-parts l =
    let presentations = l.trays.presentations.now in
    let returns = l.trays.returns.now in
    Going presentations returns (next_part presentations returns) (lot_parts - l.parts) l.parts (filled presentations returns (standing_of l.initial.p l.initial.lines.message l.initial.lines.reply)) l.lines.message l.lines.reply l.p
