-- Laws of the sum of totals: none added changes nothing, and brackets do not matter.
use mathlib.Core.Path.{◌≡◌}
use native.Mathlib.Nat.{add_assoc, zero-add, add-zero}
use Rattle.amounts.specs.declared.Totals.{Totals}
use Rattle.amounts.specs.Totals.{zeros, plus}

pub plus_zeros : (a : Totals) → plus a zeros ≡ a
plus_zeros a = simp add-zero

pub zeros_plus : (a : Totals) → plus zeros a ≡ a
zeros_plus a = simp zero-add

pub plus_assoc : (a b c : Totals) → plus (plus a b) c ≡ plus a (plus b c)
plus_assoc a b c = simp add_assoc
