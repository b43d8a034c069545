-- `rounded`: half of ten thousand, added before the division, sends what is at the half or above it to the next unit.
use mathlib.Core.Path.{◌≡◌, refl}
use mathlib.Core.Bool.{Bool, true, false, cond}
use Prim.Native.Nat.{ℕ, suc, ◌+◌, ◌*◌, ◌/◌, ◌%◌, ◌≤◌, ◌<◌}
use native.Mathlib.Omega.{arith}
use borrow.Author.Tests.{leb-true, leb-false}
use lib.Dec.{leb}
use Rattle.tariff.specs.Rounding.{ten_thousand, rounded}
use Rattle.tariff.proofs.rounding.rounded.Goals as goal

-- the units that a product comes to: within half a unit of it, and upwards where it is an exact half
half_up : (n r : ℕ) → r * ten_thousand ≤ n + 5000 → n + 5000 < r * ten_thousand + ten_thousand → r ≡ rounded n
unfolding rounded
half_up n r low high = go (leb ten_thousand (2 * (n % ten_thousand))) refl
  where
    go : (t : Bool) → leb ten_thousand (2 * (n % ten_thousand)) ≡ t → r ≡ cond t (suc (n / ten_thousand)) (n / ten_thousand)
    go true e = omega (arith, leb-true ten_thousand (2 * (n % ten_thousand)) e)
    go false e = omega (arith, leb-false ten_thousand (2 * (n % ten_thousand)) e)

pub returns : goal.returns
returns c = half_up c.args.product _ (omega arith) (omega arith)
