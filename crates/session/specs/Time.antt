-- 01, 'Order, first that applies': the refusals that all calls with a time share.
use Rattle.std.specs.Prelude.{ℕ, Bool, true, false, not, ltb}
use Rattle.codes.specs.Chain.{◌when◌, ◌orelse◌}
use Rattle.session.specs.declared.session.Close.{Close}
use Rattle.session.specs.Hours.{past_day, within_hours}

-- 32: closed, in whatever way
abbrev pub is_closed : Close → Bool
is_closed Close.Open = false
is_closed Close.Ordered = true
is_closed Close.Forced = true

-- of a clock call, which 31 does not concern
unfoldable pub clock_refusal : (time seen : ℕ) → Close → ℕ
clock_refusal time seen close =
    20 when past_day time
    orelse 32 when is_closed close
    orelse 30 when ltb time seen

-- of every other call
unfoldable pub time_refusal : (time seen : ℕ) → Close → ℕ
time_refusal time seen close =
    clock_refusal time seen close
    orelse 31 when not (within_hours time)
