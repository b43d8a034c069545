-- What a call of a centre says, put together of the outcome of a call of its session.
use Prim.Native.Nat.{ℕ}
use mathlib.Core.Path.{◌≡◌, ap}
use mathlib.Core.List.{List}
use Rattle.session.specs.declared.running.Running.{Running}
use Rattle.session.specs.declared.session.Session.{Session}
use Rattle.session.specs.Parties.{Direction, opposite}
use Rattle.session.specs.Premise.{Carried, Kept, KeptBeside}
use Rattle.session.specs.Outcome.{Outcome}
use Rattle.session.specs.Engine.{Call, meaning, direction_of, Engine, lent, Performed, performed_by, performed}

-- a call that is lent no running totals keeps those of a direction as they were
pub same_running : (d : Direction) {before after : Session} {running : Running} → Kept before after → Carried d before running → KeptBeside d before after running
same_running d kept carried = record { sound = kept.sound; carried = kept.carried d _ carried; other = kept.carried (opposite d) }

-- from the number, the bytes written and the engine
pub together : {number number' written written' : ℕ} {engine engine' : Engine} → number ≡ number' → written ≡ written' → engine ≡ engine' → (line : List ℕ) → ◌≡◌ {A = Performed} (record { number = number; written = written; line = line; engine = engine }) (record { number = number'; written = written'; line = line; engine = engine' })
together a b e line = cc

-- from an outcome that is the meaning of a call
pub by_meaning : (call : Call) (line : List ℕ) (e : Engine) {o : Outcome} → o ≡ meaning call (lent (direction_of call) line e) → performed_by (direction_of call) o e ≡ performed call line e
unfolding performed
by_meaning call line e h = ap (λ (o : Outcome). performed_by (direction_of call) o e) h
