use mathlib.Core.Path.{refl, sym, ◌∙◌}
use Prim.Native.Nat.{suc, ◌+◌, ◌-◌}
use native.Mathlib.Omega.{arith}
use Rattle.exchange.specs.Fixed.{lot_parts}
use Rattle.exchange.specs.Course.{next_part, filled}
use Rattle.exchange.proofs.Laws.Course.{stays, moves, over}
use Rattle.exchange.proofs.lot.fill.Goals as goal

pub loop-parts-init : goal.loop-parts-init
unfolding filled
loop-parts-init c = record { within = c.requires; whole = refl }

pub returns-then-eq-clause-outcome : goal.returns-then-eq-clause-outcome
returns-then-eq-clause-outcome c =
    let below = c.loop-parts-test.true in
    stays (next_part c.args.trays.presentations.now c.args.trays.returns.now) (lot_parts - suc c.loop-parts.parts) (lot_parts - c.loop-parts.parts) c.loop-parts.parts _ _ (omega arith) c.send_next.ensures.outcome (sym c.eq.ensures ∙ c.if-eq.true) ∙ c.loop-parts.invariant.whole

pub loop-parts-preserved : goal.loop-parts-preserved
loop-parts-preserved c =
    let below = c.loop-parts-test.true in
    record {
      within = c.send_next.ensures.within;
      whole = moves (next_part c.args.trays.presentations.now c.args.trays.returns.now) (lot_parts - (c.loop-parts.parts + 1)) (lot_parts - c.loop-parts.parts) c.loop-parts.parts _ _ (omega arith) c.send_next.ensures.outcome _ (omega arith) (sym c.eq.ensures ∙ c.if-eq.false) ∙ c.loop-parts.invariant.whole;
    }

pub returns-clause-outcome : goal.returns-clause-outcome
returns-clause-outcome c =
    over (next_part c.args.trays.presentations.now c.args.trays.returns.now) (lot_parts - c.loop-parts.parts) c.loop-parts.parts _ (omega arith) ∙ c.loop-parts.invariant.whole
