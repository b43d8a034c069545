-- 01, 'Given because of the state', 07: which message has its place where, a definition for each of the paper's clauses. Both ends ask them alike,
-- but a lot total is asked in full by its receiver alone.
use Rattle.std.specs.Prelude.{ℕ, Bool, true, false, not, eqb, Option, Some, None}
use Rattle.codes.specs.Chain.{◌when◌, ◌orelse◌}
use Rattle.session.specs.declared.running.Running.{Running}
use Rattle.session.specs.Running.{documents_in}

-- a lot is open
abbrev pub is_open : Option ℕ → Bool
is_open None = false
is_open (Some n) = true

-- the open lot is the one of this number
abbrev pub is_open_lot : (number : ℕ) → Option ℕ → Bool
is_open_lot number None = false
is_open_lot number (Some n) = eqb n number

-- Each is told whether the direction has ended, and which lot is open. A detail and a lot total do not ask for the end: after it no lot is open.

-- between lots: not after the end, nor while a lot is open
abbrev pub between_lots : (ended : Bool) → Option ℕ → ℕ
between_lots ended lot =
    7 when ended
    orelse 7 when is_open lot

-- a header
unfoldable pub header_sequence : (ended : Bool) → Option ℕ → ℕ
header_sequence ended lot = between_lots ended lot

-- what belongs into a lot, a detail, or a lot total that its presenter is about to write: a lot is open
unfoldable pub lot_sequence : (ended : Bool) → Option ℕ → ℕ
lot_sequence ended lot = 7 when not (is_open lot)

-- a lot total that was received: of the open lot, with a detail accepted, which has one document at least
unfoldable pub lot_total_sequence : (ended : Bool) (number : ℕ) → Option ℕ → Running → ℕ
lot_total_sequence ended number lot running =
    7 when not (is_open_lot number lot)
    orelse 7 when eqb (documents_in running) 0

-- a session total
unfoldable pub session_total_sequence : (ended : Bool) → Option ℕ → ℕ
session_total_sequence ended lot = between_lots ended lot
