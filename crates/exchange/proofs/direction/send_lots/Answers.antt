use mathlib.Core.Path.{refl, sym, ◌∙◌}
use Prim.Native.Nat.{suc, ◌+◌, ◌-◌}
use native.Mathlib.Omega.{arith}
use Rattle.session.specs.Limits.{most_lots}
use Rattle.exchange.specs.Course.{lot_made, lots_made}
use Rattle.exchange.proofs.Laws.Course.{stays, moves, over}
use Rattle.exchange.proofs.direction.send_lots.Goals as goal

pub loop-number-init : goal.loop-number-init
unfolding lots_made
loop-number-init c = record { within = c.requires; whole = refl }

pub returns-then-eq-clause-outcome : goal.returns-then-eq-clause-outcome
returns-then-eq-clause-outcome c =
    let below = c.loop-number-test.true in
    stays (lot_made c.args.trays.presentations.now c.args.trays.returns.now) (most_lots - c.loop-number.number) (suc most_lots - c.loop-number.number) c.loop-number.number _ _ (omega arith) c.send_lot.ensures.outcome (sym c.eq.ensures ∙ c.if-eq.true) ∙ c.loop-number.invariant.whole

pub loop-number-preserved : goal.loop-number-preserved
loop-number-preserved c =
    let below = c.loop-number-test.true in
    record {
      within = c.send_lot.ensures.within;
      whole = moves (lot_made c.args.trays.presentations.now c.args.trays.returns.now) (suc most_lots - (c.loop-number.number + 1)) (suc most_lots - c.loop-number.number) c.loop-number.number _ _ (omega arith) c.send_lot.ensures.outcome _ (omega arith) (sym c.eq.ensures ∙ c.if-eq.false) ∙ c.loop-number.invariant.whole;
    }

pub returns-clause-outcome : goal.returns-clause-outcome
returns-clause-outcome c =
    over (lot_made c.args.trays.presentations.now c.args.trays.returns.now) (suc most_lots - c.loop-number.number) c.loop-number.number _ (omega arith) ∙ c.loop-number.invariant.whole
