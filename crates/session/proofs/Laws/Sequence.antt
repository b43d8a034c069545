-- What the place of a message tells: its number is a listed code, and 0 finds the lot that the message needs.
use mathlib.Core.Path.{◌≡◌}
use mathlib.Core.Bool.{Bool, true}
use Prim.Native.Nat.{ℕ}
use lib.Dec.{lit<}
use Rattle.std.specs.Prelude.{Option}
use Rattle.codes.specs.declared.code.Code.{Code}
use Rattle.codes.proofs.Laws.Chain.{none_held, held}
use Rattle.codes.proofs.Laws.Listed.{Listed, one, row}
use Rattle.session.specs.declared.running.Running.{Running}
use Rattle.session.specs.Sequence.{is_open, is_open_lot, header_sequence, lot_sequence, lot_total_sequence, session_total_sequence}

-- what belongs into a lot finds one open, and a lot total that was received its own
pub open_told : (ended : Bool) (lot : Option ℕ) → lot_sequence ended lot ≡ 0 → is_open lot ≡ true
unfolding lot_sequence
open_told ended lot e = none_held 7 (is_open lot) (lit< tt) e

pub this_told : (ended : Bool) (number : ℕ) (lot : Option ℕ) (t : Running) → lot_total_sequence ended number lot t ≡ 0 → is_open_lot number lot ≡ true
unfolding lot_total_sequence
this_told ended number lot t e = (held 7 (is_open_lot number lot) _ (lit< tt) e).0

module _ (ended : Bool) (lot : Option ℕ) where
  pub header_listed : Listed (header_sequence ended lot)
  unfolding header_sequence
  header_listed = row Code.WrongSequence _ _ (one Code.WrongSequence _)

  pub lot_listed : Listed (lot_sequence ended lot)
  unfolding lot_sequence
  lot_listed = one Code.WrongSequence _

  pub lot_total_listed : (number : ℕ) (t : Running) → Listed (lot_total_sequence ended number lot t)
  unfolding lot_total_sequence
  lot_total_listed number t = row Code.WrongSequence _ _ (one Code.WrongSequence _)

  pub session_total_listed : Listed (session_total_sequence ended lot)
  unfolding session_total_sequence
  session_total_listed = row Code.WrongSequence _ _ (one Code.WrongSequence _)
