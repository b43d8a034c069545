-- 01, 'Order, first that applies': a chain of numbers, each with its test, read from the left. 0 is none of them.
use Rattle.std.specs.Prelude.{ℕ, zero, suc, Bool, true, false}

infix 3 ◌when◌
infixr 2 ◌orelse◌
-- n where the test holds, else none
unfoldable pub ◌when◌ : ℕ → Bool → ℕ
n when true = n
n when false = 0

-- the first of two that applies
unfoldable pub ◌orelse◌ : ℕ → ℕ → ℕ
zero orelse b = b
suc a orelse b = suc a
