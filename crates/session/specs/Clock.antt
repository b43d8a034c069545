-- 01, 'Course of a direction': the clock call, and how a session closes.
use Rattle.std.specs.Prelude.{ℕ, ◌&&◌, cond}
use Rattle.session.specs.declared.session.Close.{Close}
use Rattle.session.specs.declared.session.Session.{Session}
use Rattle.session.specs.Hours.{at_close}
use Rattle.session.specs.Outcome.{Held, held, Outcome, decided, silent, seen_at}
use Rattle.session.specs.Time.{clock_refusal}

-- in order where both directions have ended, as far as this end knows
abbrev pub closing : Session → Close
closing s = cond (s.presenting.ended && s.receiving.ended) Close.Ordered Close.Forced

-- a session with another close
abbrev pub with_close : Close → Session → Session
with_close c s = record { parties = s.parties; presenting = s.presenting; receiving = s.receiving; seen = s.seen; close = c }

-- the last seen time moves, and at the hour the close; nothing else does, so what awaits a reply stays
abbrev pub ticked : (time : ℕ) → Session → Session
ticked time s = seen_at time (with_close (cond (at_close time) (closing s) s.close) s)

-- a clock call, at any time
unfoldable pub clock : (time : ℕ) → Held → Outcome
clock time h = decided (clock_refusal time h.session.seen h.session.close) h (silent (held (ticked time h.session) h.running h.line))
