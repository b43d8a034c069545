-- Laws of the detail check as C calls it: entities outside the limits of a start end the chain, and an own one that is too large is such.
use mathlib.Core.Path.{◌≡◌, ap, sym}
use mathlib.Core.Bool.{Bool, false, ◌&&◌}
use mathlib.Core.List.{List}
use Prim.Native.Nat.{ℕ, ◌<◌}
use borrow.Author.Tests.{lt-leb}
use lib.Dec.{leb, lit<}
use lib.ListN.{length}
use Rattle.packed.specs.Every.{every}
use Rattle.amounts.specs.Totals.{zeros}
use Rattle.codes.proofs.Laws.Chain.{fails}
use Rattle.document.specs.Limits.{largest_entity, most_represented}
use Rattle.document.specs.Entities.{is_entity, entities_good}
use Rattle.detail.specs.Groups.{documents}
use Rattle.detail.specs.Codes.{receiver_code, accepted_totals}
use Rattle.detail.specs.Checked.{four_numbers, checked, checked_code}

pub start_refused : (own : ℕ) (represented body : List ℕ) → entities_good own represented ≡ false → four_numbers 24 zeros ≡ checked own represented body
unfolding checked checked_code
start_refused own represented body bad =
    ap (λ (n : ℕ). four_numbers n (accepted_totals n (documents body)))
    (sym (fails 24 (entities_good own represented) (receiver_code own represented body) (lit< tt) bad))

pub own_too_large : (own : ℕ) (represented : List ℕ) → largest_entity < own → entities_good own represented ≡ false
own_too_large own represented h =
    ap (λ (t : Bool). t && leb (length represented) most_represented && every is_entity represented) (lt-leb own largest_entity h)
