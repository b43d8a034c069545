-- `side_of`: each part is what its own function says, and a signed number is read and stored as it is.
use mathlib.Core.Path.{ap, ◌∙◌}
use mir.Syntax.{w64}
use mir.ValLaws.{to_z-of_z}
use Rattle.session.specs.declared.counters.Lot.{Lot}
use Rattle.exchange.specs.Evening.{sums_of}
use Rattle.exchange.proofs.shown.side_of.Goals as goal

pub returns : goal.returns
returns c =
    let r = c.args.r in
    -- the two positions among what is known of a report's numbers
    let signed = c.well_formed.0.1.1.1.1.1.0.1.1 in
    λ i.
    record {
      presented = c.sums_of.ensures i;
      received = c.sums_of-2.ensures i;
      close = c.close_number.ensures i;
      awaited = c.awaited_number.ensures i;
      lot_number = ap (λ (l : Lot). l.number) c.awaited_lot-lot.ensures i;
      lot = (c.sums_of-3.ensures ∙ ap (λ (l : Lot). sums_of 0 l.gathered) c.awaited_lot-lot.ensures) i;
      nominal_position = to_z-of_z w64 r.positions.nominal (record { sfits = signed.0.1 }) i;
      commission_position = to_z-of_z w64 r.positions.commission (record { sfits = signed.1.0.1 }) i;
    }
